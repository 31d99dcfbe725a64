-- The head of a description.
use Rattle.std.specs.Prelude.{Option}
use Prim.Native.Nat.{ℕ, suc, ◌+◌, ◌^◌, ◌≤◌, ◌<◌, min}
use native.Mathlib.Omega.{arith}
use mathlib.Core.Path.{◌≡◌, ◌∙◌}
use mathlib.Core.List.{List}
use lib.ListN.{length, get_or, set, length-set}
use Rattle.little_endian.specs.Bytes.{Stored}
use Rattle.memory.specs.Layout.{room_size}
use Rattle.memory.proofs.Flat.{set_same, set_other}
use Rattle.fields.specs.Fields.{text_in}
use Rattle.properties.specs.Property.{text_of}
use Rattle.text.specs.Ids.{id_most}
use Rattle.device.specs.Layout.{described_at, root_at, parent_at, version_at, count_at, properties_most}
use Rattle.device.specs.Decode.{optional_at, count_in}
use Rattle.patch.proofs.Frame.{num-alike, optional-alike}
use Rattle.imprint.specs.Parts.{WritesWithin, Texted, Family, Headed}
use Rattle.imprint.proofs.Writes.{Numbered, numbered}
use Rattle.imprint.proofs.Fields.{alike-below, wider, then, is_one, optional_is}

-- root and parent
module _ (m₀ m₁ m₂ s : List ℕ) (root parent : Option ℕ) (l : length m₀ ≡ room_size) (w₁ : Texted m₀ (text_of (text_in s root)) root_at id_most m₁) (w₂ : Texted m₁ (text_of (text_in s parent)) parent_at id_most m₂) where
  pub family : Family m₀ s root parent m₂
  family = record {
    within = then (wider w₁.within root_at version_at (omega arith) (omega arith)) (wider w₂.within root_at version_at (omega arith) (omega arith));
    rooted = λ f. optional-alike id_most (alike-below w₂.within root_at 33 (omega arith) (omega (arith, w₁.within.kept))) ∙ optional_is root_at id_most (text_in s root) (omega arith) w₁ f;
    parented = λ f. optional_is parent_at id_most (text_in s parent) (omega arith) w₂ f;
  }

only_set : (m : List ℕ) (k v a b : ℕ) → a ≤ k → k < b → WritesWithin m a b (set m k v)
only_set m k v a b p q = record { kept = length-set m k v; below = λ i h. set_other m k v i (λ e. omega arith); above = λ i h. set_other m k v i (λ e. omega arith) }

count_is : (r : List ℕ) (n : ℕ) → get_or r count_at 0 ≡ min n properties_most → count_in r ≡ min n properties_most
unfolding count_in
count_is r n e = rw e (omega arith)

-- the head: one byte, root and parent, the version, one byte
module _ (m₀ m₂ m₃ s : List ℕ) (root parent : Option ℕ) (version n c : ℕ) (l : length m₀ ≡ room_size) (w₂ : Family (set m₀ described_at 1) s root parent m₂) (v : version < 256 ^ 8) (stored : Stored m₂ version_at 8 version m₃) (q : c ≡ min n properties_most) where
  abbrev m₄ : List ℕ
  m₄ = set m₃ count_at c

  long₂ : length m₂ ≡ room_size
  long₂ = w₂.within.kept ∙ length-set m₀ described_at 1 ∙ l

  w₃ : Numbered m₂ version_at version m₃
  w₃ = numbered m₂ m₃ version_at version (omega (arith, long₂)) v stored

  long₃ : length m₃ ≡ room_size
  long₃ = w₃.within.kept ∙ long₂

  last : WritesWithin m₃ count_at (suc count_at) m₄
  last = only_set m₃ count_at c count_at (suc count_at) (omega arith) (omega arith)

  only : WritesWithin m₀ described_at (suc count_at) m₄
  only =
      then (only_set m₀ described_at 1 described_at (suc count_at) (omega arith) (omega arith))
      (then (wider w₂.within described_at (suc count_at) (omega arith) (omega arith))
      (then (wider w₃.within described_at (suc count_at) (omega arith) (omega arith)) (wider last described_at (suc count_at) (omega arith) (omega arith))))

  there_is : get_or m₄ described_at 0 ≡ 1
  there_is = last.below described_at (omega arith) ∙ w₃.within.below described_at (omega arith) ∙ w₂.within.below described_at (omega arith) ∙ set_same m₀ described_at 1 (omega arith)

  kept-optional : (at : ℕ) → at + 33 ≤ version_at → optional_at m₄ at id_most ≡ optional_at m₂ at id_most
  kept-optional at h = optional-alike id_most (alike-below last at 33 (omega arith) (omega (arith, long₃))) ∙ optional-alike id_most (alike-below w₃.within at 33 (omega arith) (omega (arith, long₂)))

  pub headed : Headed m₀ s root parent version n m₄
  headed = record {
    within = only;
    there = is_one m₄ described_at there_is;
    rooted = λ f. kept-optional root_at (omega arith) ∙ w₂.rooted f;
    parented = λ f. kept-optional parent_at (omega arith) ∙ w₂.parented f;
    versioned = num-alike (alike-below last version_at 8 (omega arith) (omega (arith, long₃))) ∙ w₃.number;
    count = count_is m₄ n (set_same m₃ count_at c (omega (arith, long₃)) ∙ q);
  }
