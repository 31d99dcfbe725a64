-- Words put into a buffer.
use Prim.Native.Nat.{ℕ, ◌-◌, ◌^◌, ◌≤◌, ◌<◌}
use mathlib.Core.Path.{◌≡◌}
use mathlib.Core.List.{List}
use borrow.Author.Tests.{le-leb, lt-leb}
use Rattle.text.specs.Ascii.{ascii}
use Rattle.lines.specs.Number.{decimal_text}
use Rattle.lines.specs.Out.{Puts, Adds}
use Rattle.lines.proofs.Adding.{put-adds, adds_then}
use Rattle.words.specs.Words.{refusal, refusal_at, signed}

-- the same text by another name
pub put_same : {d d' t u : List ℕ} {at r : ℕ} → t ≡ u → Puts d at t r d' → Puts d at u r d'
put_same e p = rw e at p

pub adds-refusal : {d d' d'' : List ℕ} {r r' : ℕ} (n : ℕ) → Puts d 0 (ascii "refused ") r d' → Puts d' r (decimal_text n) r' d'' → Adds d 0 (refusal n) r' d''
unfolding refusal
adds-refusal {d} {d'} {d''} {r} {r'} n p q = adds_then (put-adds d 0 (ascii "refused ") p) (put-adds d' r (decimal_text n) q)

pub adds-place : {d d' d'' d''' : List ℕ} {r r' r'' : ℕ} (n place : ℕ) → Adds d 0 (refusal n) r d' → Puts d' r (ascii " ") r' d'' → Puts d'' r' (decimal_text place) r'' d''' → Adds d 0 (refusal_at n place) r'' d'''
unfolding refusal_at
adds-place {d} {d'} {d''} {d'''} {r} {r'} {r''} n place a p q = adds_then a (adds_then (put-adds d' r (ascii " ") p) (put-adds d'' r' (decimal_text place) q))

pub adds-above : {d d' : List ℕ} {r : ℕ} (v : ℕ) → 2 ^ 63 ≤ v → Puts d 0 (decimal_text (v - 2 ^ 63)) r d' → Adds d 0 (signed v) r d'
unfolding signed
adds-above {d} {d'} {r} v h p = rw (le-leb (2 ^ 63) v h) (put-adds d 0 (decimal_text (v - 2 ^ 63)) p)

pub adds-below : {d d' d'' : List ℕ} {r r' : ℕ} (v : ℕ) → v < 2 ^ 63 → Puts d 0 (ascii "-") r d' → Puts d' r (decimal_text (2 ^ 63 - v)) r' d'' → Adds d 0 (signed v) r' d''
unfolding signed
adds-below {d} {d'} {d''} {r} {r'} v h p q =
    rw (lt-leb (2 ^ 63) v h) (adds_then (put-adds d 0 (ascii "-") p) (put-adds d' r (decimal_text (2 ^ 63 - v)) q))
