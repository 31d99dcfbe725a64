-- Pieces put one after the other.
use Prim.Native.Nat.{ℕ, ◌+◌, ◌≤◌, ◌<◌}
use mathlib.Core.Path.{◌≡◌, sym, ◌∙◌}
use mathlib.Core.List.{List, ◌++◌, append_assoc}
use native.Mathlib.Omega.{arith}
use lib.ListN.{length, take, drop, length-append}
use lib.Seq.{take_at, length-take-le}
use borrow.Author.Tests.{le-leb, lt-leb}
use Rattle.text.proofs.Bytes.{at_most}
use Rattle.little_endian.specs.Bytes.{put}
use Rattle.little_endian.proofs.Put.{length-put}
use Rattle.lines.specs.Out.{Puts, Stands, Adds, written, behind}

module _ (d : List ℕ) (at : ℕ) (t : List ℕ) where
  with-room : at + length t ≤ length d → written d at t ≡ put d at t
  unfolding written put
  with-room h = rw (le-leb (at + length t) (length d) h)

  without-room : length d < at + length t → written d at t ≡ d
  unfolding written
  without-room h = rw (lt-leb (at + length t) (length d) h)

  pub written-size : length (written d at t) ≡ length d
  written-size = at_most (at + length t) (length d)
      (λ h. rw (with-room h) (length-put d at t h))
      (λ h. rw (without-room h))

  behind-room : at + length t ≤ length d → behind d at t ≡ at + length t
  unfolding behind
  behind-room h = rw (le-leb (at + length t) (length d) h)

  take_behind : at + length t ≤ length d → take (at + length t) (put d at t) ≡ take at d ++ t
  unfolding put
  take_behind h =
      let n : length (take at d ++ t) ≡ at + length t = rw (length-append, length-take-le at d (omega arith)) in
      rw (← append_assoc (take at d) t (drop (at + length t) d)) (take_at (take at d ++ t) (drop (at + length t) d) (at + length t) n)

  stands-behind : (s : List ℕ) → Stands d at s → length (s ++ t) ≤ length d → Stands (written d at t) (behind d at t) (s ++ t)
  stands-behind s p h =
      let e : length (s ++ t) ≡ at + length t = rw (length-append, p.place) in
      let k : at + length t ≤ length d = omega arith in
      record { place = behind-room k ∙ sym e; text = rw (behind-room k, with-room k, take_behind k, p.text) }

  pub put-adds : {r : ℕ} {d' : List ℕ} → Puts d at t r d' → Adds d at t r d'
  put-adds p = rw (p.place, p.memory) (record { size = written-size; adds = stands-behind })

pub adds_then : {d d' d'' : List ℕ} {at r r' : ℕ} {t u : List ℕ} → Adds d at t r d' → Adds d' r u r' d'' → Adds d at (t ++ u) r' d''
adds_then {d} {d'} {d''} {at} {r} {r'} {t} {u} p q = record {
  size = q.size ∙ p.size;
  adds = λ s b h.
      let e : s ++ (t ++ u) ≡ (s ++ t) ++ u = sym (append_assoc s t u) in
      let l : length (s ++ (t ++ u)) ≡ length (s ++ t) + length u = rw (e, length-append) in
      rw e (q.adds (s ++ t) (p.adds s b (omega arith)) (rw (← e, p.size) h));
}
