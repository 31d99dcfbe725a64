-- A whole text, and one that is an array or an object.
use Rattle.std.specs.Prelude.{Err, Ok, Result}
use Prim.Native.Nat.{ℕ}
use native.Mathlib.Omega.{arith}
use mathlib.Core.Path.{◌≡◌, refl, sym, ap, ◌∙◌}
use mathlib.Core.Bool.{true, false, false≢true}
use mathlib.Core.List.{List}
use lib.ListN.{length}
use lib.Dec.{eqb}
use borrow.Author.Tests.{eqb-true}
use Rattle.abnf.proofs.Lead.{whole-lead, lead-whole}
use Rattle.json_text.specs.Bytes.{byte, ws, and_then}
use Rattle.json_text.specs.Value.{value_at, at_end, document_of, opens, is_container}
use Rattle.json_grammar.specs.Rfc8259 as G
use Rattle.json_text.proofs.Bytes.{both}
use Rattle.json_grammar.proofs.Depth.{document_at, document_16}
use Rattle.json_grammar.proofs.Sound.{sound-container}
use Rattle.json_grammar.proofs.Complete.{complete-container}

-- the reader goes on to the end or fails
pub ends_at : (d : ℕ) (s : List ℕ) (e : ℕ) → document_at d s ≡ Ok e → e ≡ length s
unfolding document_at and_then at_end
ends_at d s e q = go (value_at d s (ws s 0)) q
  where
    go : (r : Result ℕ ℕ) → and_then r (λ k. at_end s (ws s k)) ≡ Ok e → e ≡ length s
    go (Err k) q = let z : ◌≡◌ {A = ℕ} 0 1 = cc in absurd (omega arith)
    go (Ok k) q = both (eqb (ws s k) (length s))
        (λ b. let f : at_end s (ws s k) ≡ Ok (ws s k) = rw (b, at_end) in let z : e ≡ ws s k = cc in z ∙ eqb-true _ _ b)
        (λ b. let f : at_end s (ws s k) ≡ Err (ws s k) = rw (b, at_end) in let z : ◌≡◌ {A = ℕ} 0 1 = cc in absurd (omega arith))

pub ends : (s : List ℕ) (e : ℕ) → document_of s ≡ Ok e → e ≡ length s
ends s e q = ends_at 16 s e (sym (document_16 s) ∙ q)

pub container_reads : (s : List ℕ) → is_container s ≡ true → G.Container 16 s
unfolding is_container
container_reads s q = go (document_of s) refl q
  where
    go : (r : Result ℕ ℕ) → document_of s ≡ r → elim r [ Ok e ↦ opens (byte s (ws s 0)) | Err e ↦ false ] ≡ true → G.Container 16 s
    go (Ok e) p b = lead-whole G.rules 16 G.container (sound-container s (p ∙ ap Ok (ends s e p)) b)
    go (Err e) p b = absurd (false≢true b)

pub container-read : (s : List ℕ) → G.Container 16 s → is_container s ≡ true
unfolding is_container
container-read s w = let c = complete-container s (whole-lead G.rules 16 G.container w) in rw (c.0, is_container) c.1
