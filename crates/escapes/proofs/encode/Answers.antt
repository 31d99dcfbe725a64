use Rattle.escapes.proofs.Escapes.{coded_1, coded_2, coded_3, coded_4}
use native.Mathlib.Omega.{arith}
use Rattle.escapes.proofs.encode.Goals as goal

pub returns-then-c-lt128 : goal.returns-then-c-lt128
returns-then-c-lt128 c = coded_1 _ (omega arith)

pub returns-then-c-lt2048 : goal.returns-then-c-lt2048
returns-then-c-lt2048 c = coded_2 _ (omega arith) (omega arith)

pub returns-then-c-lt65536 : goal.returns-then-c-lt65536
returns-then-c-lt65536 c = coded_3 _ (omega arith) (omega arith)

pub returns : goal.returns
returns c = coded_4 _ (omega arith)
