use native.Mathlib.Omega.{arith}
use Rattle.lines.proofs.Pairing.{is_digit-number, is_digit-letter, is_digit-none}
use Rattle.lines.proofs.hex.is_digit.Goals as goal

pub returns-in-48-to-57 : goal.returns-in-48-to-57
returns-in-48-to-57 c = is_digit-number _ (omega arith) (omega arith)

pub returns-in-48-to-57-2 : goal.returns-in-48-to-57-2
returns-in-48-to-57-2 c = is_digit-letter _ (omega arith) (omega arith)

pub returns-in_default : goal.returns-in_default
returns-in_default c = is_digit-none _ (λ h k. omega arith) (λ h k. omega arith)

pub returns-in_default-2 : goal.returns-in_default-2
returns-in_default-2 c = is_digit-none _ (λ h k. omega arith) (λ h k. omega arith)

pub returns-in_default-3 : goal.returns-in_default-3
returns-in_default-3 c = is_digit-none _ (λ h k. omega arith) (λ h k. omega arith)
