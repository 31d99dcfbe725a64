-- Strings that can have no backslash.
use Prim.Native.Nat.{ℕ}
use mathlib.Core.Path.{◌≡◌, refl, sym, ap, ◌∙◌}
use mathlib.Core.List.{List, [], ◌∷◌, ◌++◌}
use mathlib.Core.Bool.{Bool, true, false, false≢true}
use lib.Dec.{eqb}
use borrow.Author.Tests.{eqb-true}
use Rattle.json_text.specs.Strings.{is_plain}
use Rattle.text.specs.Bytes.{every}
use Rattle.text.specs.Ids.{id_byte, is_id}
use Rattle.text.proofs.Bytes.{both, and_both}
use Rattle.text.proofs.Ids.{is-id}

module _ (test : ℕ → Bool) (n : test 92 ≡ false) where
  no-backslash : (b : ℕ) → test b ≡ true → eqb b 92 ≡ false
  no-backslash b e = both (eqb b 92) (λ q. absurd (false≢true (sym n ∙ ap test (sym (eqb-true b 92 q)) ∙ e))) (λ q. q)

  -- bytes that all pass a test which a backslash fails
  pub every-plain : (t : List ℕ) → every test t ≡ true → is_plain t ≡ true
  unfolding is_plain every
  every-plain [] e = refl
  every-plain (b ∷ t) e = let h = and_both (test b) (every test t) e in rw (no-backslash b h.0, is_plain) (every-plain t h.1)

pub id-plain : (t : List ℕ) → is_id t ≡ true → is_plain t ≡ true
unfolding id_byte
id-plain t e = every-plain id_byte refl t (is-id t e).all

pub plain-append : (t u : List ℕ) → is_plain t ≡ true → is_plain u ≡ true → is_plain (t ++ u) ≡ true
unfolding is_plain
plain-append [] u e f = f
plain-append (b ∷ t) u e f = both (eqb b 92)
    (λ h. absurd (false≢true (rw (h, is_plain) at e)))
    (λ h. rw (h, is_plain) (plain-append t u (rw (h, is_plain) at e) f))
