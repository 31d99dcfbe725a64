-- What this crate promises beyond its contracts.
use Prim.Native.Nat.{ℕ, ◌≤◌, ◌<◌}
use mathlib.Core.Path.{◌≡◌, refl}
use mathlib.Core.Logic.{◌↔◌}
use mathlib.Core.List.{List, [], ◌∷◌, map}
use mathlib.Core.Bool.{true, false}
use lib.ListN.{length, drop, replicate}
use Rattle.std.specs.Prelude.{Some, option_map}
use Rattle.abnf.specs.Abnf.{◌∈◌}
use Rattle.abnf.specs.Place.{Furthest, FirstBad}
use Rattle.text.specs.Bytes.{eq_bytes, less_bytes, every, slice, Compared}
use Rattle.text.specs.Split.{split, join_by, part_at, AllFree, Splits, found_part}
use Rattle.text.specs.Scalars.{Encoding}
use Rattle.text.proofs.Bytes.{eq_bytes-true, eq_bytes_yes}
use Rattle.text.proofs.Split.{is_part, split-more, split-last}
use Rattle.text.specs.Ids.{id_byte, is_id, ID, id_bytes, read_id}
use Rattle.abnf.specs.Accepts.{is_empty, again, starts, accepts}
use Rattle.text.specs.Utf8.{UTF8-char, UTF8-octets, is_utf8, is_text}
use Rattle.text.specs.Utf8Place.{Utf8, low, high, first, later, next, utf8_reach, utf8_place}
use Rattle.text.proofs.Order.{less_transitive, trichotomy}
use Rattle.text.proofs.Joins.{splits, split-join}
use Rattle.text.proofs.Ids.{read_back}
use Rattle.text.proofs.IdGrammar.{is_id_is}
use Rattle.text.proofs.Utf8.{is_utf8_is}
use Rattle.text.proofs.Utf8Place.{utf8_reach_lem, utf8-first-bad}
use Rattle.text.proofs.Scalars.{char_is}
use Rattle.text.proofs.Rule10.{is_text_is}

-- ---- IDs (paper 01, "Topics")

-- the computation and the grammar agree
pub ids : (s : List ℕ) → (is_id s ≡ true) ↔ (s ∈ ID)
ids = is_id_is

-- the value read has the bytes it was read from
pub read-gives : (s : List ℕ) → is_id s ≡ true → option_map id_bytes (read_id s) ≡ Some s
read-gives = read_back

-- 32 bytes, and 33; a capital letter; none
pub id_32 : is_id (replicate 32 0x61) ≡ true
unfolding is_id id_byte every
id_32 = refl

pub id_33 : is_id (replicate 33 0x61) ≡ false
unfolding is_id
id_33 = refl

pub id_capital : is_id (0x41 ∷ []) ≡ false
unfolding is_id id_byte every
id_capital = refl

pub id_empty : is_id [] ≡ false
unfolding is_id
id_empty = refl

-- ---- levels: the parts joined again are the string and hold no separator, and such parts are found again

pub splitting : (sep : ℕ) (s : List ℕ) → Splits sep s
splitting = splits

pub joining : (sep : ℕ) (p : List ℕ) (ps : List (List ℕ)) → AllFree sep (p ∷ ps) → split sep (join_by sep p ps) ≡ p ∷ ps
joining = split-join

-- the part that starts at a place is the first of the parts from there on, and the others start at `next`; past the end there are no others
pub next_part : (sep : ℕ) (t : List ℕ) (at s e n : ℕ) → found_part s e n ≡ part_at sep t at → n ≤ length t → split sep (drop at t) ≡ slice t s e ∷ split sep (drop n t)
next_part sep t at s e n q = split-more sep t at s e n (is_part sep t at s e n q)

pub last_part : (sep : ℕ) (t : List ℕ) (at s e n : ℕ) → found_part s e n ≡ part_at sep t at → length t < n → split sep (drop at t) ≡ slice t s e ∷ []
last_part sep t at s e n q = split-last sep t at s e n (is_part sep t at s e n q)

-- ---- equality

pub equality : (a b : List ℕ) → (eq_bytes a b ≡ true) ↔ (a ≡ b)
equality a b = (eq_bytes-true a b, eq_bytes_yes a b)

-- ---- byte order (paper 01, "The table"): a strict total order

pub transitive : (a b c : List ℕ) → less_bytes a b ≡ true → less_bytes b c ≡ true → less_bytes a c ≡ true
transitive = less_transitive

-- exactly one of: before, equal, after
pub compared : (a b : List ℕ) → Compared (less_bytes a b) (eq_bytes a b) (less_bytes b a)
compared = trichotomy

-- ---- UTF-8 (RFC 3629)

-- the test decides the RFC's grammar (section 4)
pub utf8 : (s : List ℕ) → (is_utf8 s ≡ true) ↔ (s ∈ UTF8-octets)
utf8 = is_utf8_is

-- a character of the grammar is the encoding (section 3) of a number up to U+10FFFF that is no surrogate, in its shortest form, and each such encoding is one
pub characters : (w : List ℕ) → (w ∈ UTF8-char) ↔ Encoding w
characters = char_is

-- an overlong form of `/`; the surrogate U+D800; U+110000; the euro sign cut short, and whole
pub overlong : is_utf8 (0xC0 ∷ 0xAF ∷ []) ≡ false
unfolding is_utf8 accepts starts again is_empty
overlong = refl

pub surrogate : is_utf8 (0xED ∷ 0xA0 ∷ 0x80 ∷ []) ≡ false
unfolding is_utf8 accepts starts again is_empty
surrogate = refl

pub beyond : is_utf8 (0xF4 ∷ 0x90 ∷ 0x80 ∷ 0x80 ∷ []) ≡ false
unfolding is_utf8 accepts starts again is_empty
beyond = refl

pub cut_short : is_utf8 (0xE2 ∷ 0x82 ∷ []) ≡ false
unfolding is_utf8 accepts starts again is_empty
cut_short = refl

pub euro : is_utf8 (0xE2 ∷ 0x82 ∷ 0xAC ∷ []) ≡ true
unfolding is_utf8 accepts starts again is_empty
euro = refl

-- ---- where bytes stop being UTF-8 (paper 02, K1)

-- what stands before the place can go on as UTF-8, and with the byte there it cannot
pub utf8-furthest : (s : List ℕ) → Furthest Utf8 s (utf8_place s)
utf8-furthest = utf8_reach_lem

-- of bytes that are not UTF-8 it is the first byte at which no valid continuation exists, and no other is
pub utf8-bad : (s : List ℕ) (p : ℕ) → is_utf8 s ≡ false → (p ≡ utf8_place s) ↔ FirstBad Utf8 s p
utf8-bad = utf8-first-bad

-- a second byte that is no tail; the euro sign cut short; a surrogate; an overlong form; the place after what is UTF-8
pub utf8-places : map utf8_place ((0x22 ∷ 0xC3 ∷ 0x28 ∷ []) ∷ (0xE2 ∷ 0x82 ∷ []) ∷ (0x61 ∷ 0xED ∷ 0xA0 ∷ 0x80 ∷ []) ∷ (0xC0 ∷ 0xAF ∷ []) ∷ (0xE2 ∷ 0x82 ∷ 0xAC ∷ []) ∷ []) ≡ 2 ∷ 2 ∷ 2 ∷ 0 ∷ 3 ∷ []
unfolding utf8_place utf8_reach next later first low high
utf8-places = refl

-- ---- rule 10 (paper 01, "Refusal numbers")

pub rule_10 : (s : List ℕ) → (is_text s ≡ true) ↔ ((s ∈ UTF8-octets) × ((t : List ℕ) → s ≡ 0xEF ∷ 0xBB ∷ 0xBF ∷ t → ⊥))
rule_10 = is_text_is
