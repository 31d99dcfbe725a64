-- The places between the colons.
use Rattle.std.specs.Prelude.{Option, None}
use Prim.Native.Nat.{ℕ, ◌≤◌, ◌<◌}
use native.Mathlib.Omega.{arith}
use mathlib.Core.Path.{◌≡◌, refl, sym, ap, ◌∙◌}
use mathlib.Core.List.{List, ◌∷◌}
use lib.ListN.{length, drop, take}
use Rattle.text.specs.Bytes.{slice}
use Rattle.text.specs.Split.{part_at, found_part}
use Rattle.text.specs.declared.Part.{Part}
use Rattle.text.proofs.Split.{IsPart, is_part, is_none, split-first, split-more, split-last}
use Rattle.ranges.specs.Parts.{two, three, other, counted, fields}

pub found : (s : List ℕ) (at : ℕ) {r : Option Part} {a e n : ℕ} → r ≡ part_at 58 s at → r ≡ found_part a e n → IsPart 58 s at at e n
found s at {r} {a} {e} {n} q f =
    let p = is_part 58 s at a e n (sym f ∙ q) in
    record { here = p.here; start = refl; end = p.end; next = p.next; ordered = omega (arith, p.start, p.ordered); within = p.within }

pub missing : (s : List ℕ) (at : ℕ) {r : Option Part} → r ≡ part_at 58 s at → r ≡ None → length s < at
missing s at q f = is_none 58 s at (sym f ∙ q)

module _ (s : List ℕ) where
  front : (e : ℕ) → slice s 0 e ≡ take e s
  front e = ap (λ (k : ℕ). take k s) (omega arith)

  pub no_part : length s < 0 → other ≡ fields s
  no_part h = absurd (omega arith)

  module _ {e m : ℕ} (p : IsPart 58 s 0 0 e m) where
    pub one_part : length s < m → other ≡ fields s
    unfolding fields counted
    one_part h = sym (ap counted (split-last 58 s 0 0 e m p h))

    module _ {f n : ℕ} (q : IsPart 58 s m m f n) where
      pub two-parts : length s < n → two (take e s) (slice s m f) ≡ fields s
      unfolding fields counted
      two-parts h =
          sym
          (ap counted (split-more 58 s 0 0 e m p q.here ∙ ap (λ (l : List (List ℕ)). slice s 0 e ∷ l) (split-last 58 s m m f n q h))
          ∙ ap (λ (l : List ℕ). two l (slice s m f)) (front e))

      module _ {g o : ℕ} (r : IsPart 58 s n n g o) where
        pub four-parts : o ≤ length s → other ≡ fields s
        unfolding fields counted
        four-parts h =
            sym
            (ap counted
            (split-more 58 s 0 0 e m p q.here
            ∙ ap (λ (l : List (List ℕ)). slice s 0 e ∷ l)
            (split-more 58 s m m f n q r.here
            ∙ ap (λ (l : List (List ℕ)). slice s m f ∷ l)
            (split-more 58 s n n g o r h
            ∙ ap (λ (l : List (List ℕ)). slice s n g ∷ l) (split-first 58 (drop o s))))))

        pub three-parts : length s < o → three (take e s) (slice s m f) (slice s n (length s)) ≡ fields s
        unfolding fields counted
        three-parts h =
            let k : g ≡ length s = omega (arith, r.within, r.next) in
            sym
            (ap counted
            (split-more 58 s 0 0 e m p q.here
            ∙ ap (λ (l : List (List ℕ)). slice s 0 e ∷ l)
            (split-more 58 s m m f n q r.here ∙ ap (λ (l : List (List ℕ)). slice s m f ∷ l) (split-last 58 s n n g o r h)))
            ∙ ap (λ (i : ℕ). three (slice s 0 e) (slice s m f) (slice s n i)) k
            ∙ ap (λ (l : List ℕ). three l (slice s m f) (slice s n (length s))) (front e))
