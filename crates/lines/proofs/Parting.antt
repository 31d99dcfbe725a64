-- The words of a line are the parts that the library gives.
use Rattle.std.specs.Prelude.{Option, None, Some}
use Prim.Native.Nat.{ℕ, zero, suc}
use mathlib.Core.Path.{◌≡◌, refl, ap, ◌∙◌}
use mathlib.Core.List.{List, [], ◌∷◌}
use lib.Dec.{eqb}
use lib.ListN.{length, get_or}
use denote.Ref.{Bor}
use Rattle.std.specs.List.{slice_split, onto_first, slice_get}
use Rattle.std.specs.Option.{option_map, unwrap_or}
use Rattle.text.specs.Split.{split, onto}
use Rattle.lines.specs.Words.{words, word_at, word_count}

same_onto : (b : ℕ) (ps : List (List ℕ)) → onto_first b ps ≡ onto b ps
unfolding onto
same_onto b [] = refl
same_onto b (p ∷ ps) = refl

abbrev pub parts : List ℕ → List (List ℕ)
parts line = slice_split (λ b. eqb b 32) line

same_parts : (line : List ℕ) → parts line ≡ split 32 line
unfolding split
same_parts [] = refl
same_parts (b ∷ line) = rw (same_parts line, same_onto b (split 32 line)) refl

pub counted : (line : List ℕ) (n : ℕ) → n ≡ length (parts line) → n ≡ word_count line
unfolding word_count words
counted line n e = e ∙ ap length (same_parts line)

get_is : (ps : List (List ℕ)) (k : ℕ) → unwrap_or (slice_get ps k) [] ≡ get_or ps k []
get_is [] zero = refl
get_is [] (suc k) = refl
get_is (p ∷ ps) zero = refl
get_is (p ∷ ps) (suc k) = get_is ps k

is_word : (line : List ℕ) (k : ℕ) (w : Option (List ℕ)) → w ≡ slice_get (parts line) k → unwrap_or w [] ≡ word_at line k
unfolding word_at words
is_word line k w e = ap (λ o. unwrap_or o []) e ∙ get_is (parts line) k ∙ ap (λ (ps : List (List ℕ)). get_or ps k []) (same_parts line)

now_is : (o : Option (Bor (List ℕ))) (d : Bor (List ℕ)) → (unwrap_or o d).now ≡ unwrap_or (option_map (λ (x : Bor (List ℕ)). x.now) o) d.now
now_is None d = refl
now_is (Some x) d = refl

pub found : (line : List ℕ) (k : ℕ) (o : Option (Bor (List ℕ))) (d w : Bor (List ℕ)) → w ≡ unwrap_or o d → d.now ≡ [] → option_map (λ (x : Bor (List ℕ)). x.now) o ≡ slice_get (parts line) k → w.now ≡ word_at line k
found line k o d w e n s =
    ap (λ (b : Bor (List ℕ)). b.now) e ∙ now_is o d ∙ ap (λ (l : List ℕ). unwrap_or (option_map (λ (x : Bor (List ℕ)). x.now) o) l) n ∙ is_word line k _ s
