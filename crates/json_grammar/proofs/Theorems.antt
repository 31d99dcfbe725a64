-- What the definition of the reader (crate json_text) comes to, against the grammar of RFC 8259 (specs/Rfc8259.antt), over bytes. A JSON text is UTF-8 besides:
-- that is judged apart, before (crate text, `is_utf8`), and only the last theorems here speak of it.
use Rattle.std.specs.Prelude.{Err, Ok}
use Prim.Native.Nat.{ℕ, ◌≤◌}
use mathlib.Core.Path.{◌≡◌, sym, ◌∙◌}
use mathlib.Core.Logic.{◌↔◌, ◌⊎◌}
use mathlib.Core.Bool.{true}
use mathlib.Core.List.{List, [], ◌∷◌}
use lib.ListN.{length}
use Rattle.abnf.proofs.Lead.{whole-lead, lead-whole}
use Rattle.json_text.specs.Bytes.{byte}
use Rattle.json_text.specs.Value.{value_at, document_of, is_container}
use Rattle.json_text.specs.Members.{members_at, elements_at}
use Rattle.json_grammar.specs.Rfc8259 as G
use Rattle.json_grammar.specs.Listing.{StandsWithin, IsMember, IsElement, Holds}
use Rattle.abnf.specs.Place.{FirstBad}
use Rattle.json_grammar.specs.Place.{JsonOfAnyDepth, JsonText, TooDeep, NotJsonAt, LeastOf, text_place, bad_places, smallest, fault_place}
use Rattle.json_grammar.proofs.Depth.{document_16}
use Rattle.json_grammar.proofs.Sound.{sound}
use Rattle.json_grammar.proofs.Complete.{complete}
use Rattle.json_text.proofs.Raise.{raise}
use Rattle.json_grammar.proofs.Listing.{value-within, object-members, array-elements}
use Rattle.json_grammar.proofs.Containers.{container_reads, container-read, ends}
use Rattle.json_grammar.proofs.Places.{first-bad, reader-deep, text-place}
use Rattle.json_grammar.proofs.Smallest.{none_wrong, wrong-smallest, fault-place, no-fault}

-- The reader takes exactly the byte strings of RFC 8259's grammar that are nested at most 16 deep.
pub reads_json : (s : List ℕ) → (document_of s ≡ Ok (length s)) ↔ G.JSON 16 s
reads_json s = (λ e. lead-whole G.rules 16 G.JSON-text (sound s 16 (sym (document_16 s) ∙ e)), λ w. document_16 s ∙ complete s 16 (whole-lead G.rules 16 G.JSON-text w))

-- Where it answers `Ok`, that is the text's length.
pub reads_whole : (s : List ℕ) (e : ℕ) → document_of s ≡ Ok e → e ≡ length s
reads_whole s e q = ends s e q

-- What it takes for a container is exactly one array or object with white space around, nested at most 16 deep.
pub reads-container : (s : List ℕ) → (is_container s ≡ true) ↔ G.Container 16 s
reads-container s = (container_reads s, container-read s)

-- A value that it finds within a text is one of the grammar's, nested at most so deep.
pub reads-value : (s : List ℕ) (d at e : ℕ) → value_at d s at ≡ Ok e → StandsWithin d s at G.value e
reads-value s d at e q = value-within s d at e q

-- And a value stays one where deeper nesting is allowed.
pub reads_deeper : (s : List ℕ) (d n at e : ℕ) → d ≤ n → value_at d s at ≡ Ok e → value_at n s at ≡ Ok e
reads_deeper s d n at e h q = raise s d n at e h q

-- The members of an object that the reader takes are the grammar's: between its braces stand just these, in this order.
pub reads-members : (s : List ℕ) (at e : ℕ) → byte s at ≡ 0x7B → value_at 16 s at ≡ Ok e → Holds s 0x7B 0x7D (IsMember s) at (members_at s at) e
reads-members s at e b q = object-members s at e b q

-- So are the elements of an array.
pub reads-elements : (s : List ℕ) (at e : ℕ) → byte s at ≡ 0x5B → value_at 16 s at ≡ Ok e → Holds s 0x5B 0x5D (IsElement s) at (elements_at s at) e
reads-elements s at e b q = array-elements s at e b q

-- ---- paper 02, K1: where a text is wrong

-- Where the reader answers `Err p`, and nowhere else, the text is not JSON nested at most 16 deep, and p is the first byte at which no valid continuation exists.
pub reads-bad : (s : List ℕ) (p : ℕ) → (document_of s ≡ Err p) ↔ FirstBad (G.JSON 16) s p
reads-bad = first-bad

-- That is so at any depth, or the byte is the bracket too deep.
pub reads-deep : (s : List ℕ) (p : ℕ) → document_of s ≡ Err p → FirstBad JsonOfAnyDepth s p ⊎ TooDeep 16 s p
reads-deep = reader-deep

-- The first byte at which a text cannot go on as JSON and as UTF-8 is the smaller of the two places.
pub text-bad : (s : List ℕ) (p : ℕ) → (JsonText s → ⊥) → (p ≡ text_place s) ↔ FirstBad JsonText s p
text-bad = text-place

-- A text that is not JSON, not UTF-8, too deep or too long is told at the smallest place of these, and no other text has one.
pub fault-told : (s : List ℕ) (p : ℕ) → (JsonText s → length s ≤ 8192 → ⊥) → (p ≡ fault_place s) ↔ LeastOf (NotJsonAt s) p
fault-told = fault-place

pub fault-free : (s : List ℕ) → JsonText s → length s ≤ 8192 → (p : ℕ) → NotJsonAt s p → ⊥
fault-free = no-fault

-- The list of its places is empty for such a text alone; of any other its place is the smallest of the list.
pub fault-none : (s : List ℕ) → (bad_places s ≡ []) ↔ (JsonText s × (length s ≤ 8192))
fault-none = none_wrong

pub fault-smallest : (s : List ℕ) (p : ℕ) (ps : List ℕ) → bad_places s ≡ p ∷ ps → fault_place s ≡ smallest p ps
fault-smallest = wrong-smallest
