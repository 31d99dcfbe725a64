-- What the functions answer.
use Rattle.std.specs.Prelude.{Result}
use Prim.Native.Nat.{ℕ, min}
use mathlib.Core.Path.{◌≡◌, sym, ap, ◌∙◌}
use mathlib.Core.List.{List}
use Rattle.text.specs.Bytes.{slice}
use Rattle.text.specs.Utf8Place.{utf8_place}
use Rattle.json_text.specs.Value.{document_of}
use Rattle.json_grammar.specs.Place.{reach_of, json_place, text_place, fault_place}
use Rattle.json_grammar.proofs.Smallest.{fault-cut}

pub stopped : (s : List ℕ) (q : Result ℕ ℕ) → document_of s ≡ q → reach_of q ≡ json_place s
unfolding json_place
stopped s q e = sym (ap reach_of e)

-- the first 8,192 bytes tell it
pub by_first : (s t : List ℕ) {j u r : ℕ} → t ≡ slice s 0 8192 → j ≡ json_place t → u ≡ utf8_place t → r ≡ min j u → r ≡ fault_place s
unfolding text_place
by_first s t e f g h = h ∙ rw (f, g) (ap (λ (l : List ℕ). text_place l) e ∙ fault-cut s)
