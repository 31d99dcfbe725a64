-- Words read, and what is asked.
use Rattle.faults.specs.declared.Fault.{Fault}
use Rattle.std.specs.Prelude.{Option, None, Some, Err, Ok, Result}
use Rattle.answer.specs.Refused.{number_of as paper_number}
use Rattle.answer.specs.declared.Refused.{Refused}
use Prim.Native.Nat.{ℕ, zero, suc, ◌+◌, ◌-◌, ◌*◌, ◌≤◌, ◌<◌}
use mathlib.Core.Path.{◌≡◌, refl, sym, ap, ◌∙◌}
use mathlib.Core.List.{List, [], ◌∷◌, ◌++◌}
use mathlib.Core.Bool.{Bool, true, false, cond, ◌&&◌}
use native.Mathlib.Omega.{arith}
use lib.Dec.{leb, eqb}
use lib.ListN.{length, get_or, take, drop, length-append, length-take, length-drop}
use lib.Seq.{take_at}
use borrow.Author.Tests.{le-leb}
use Rattle.answer.specs.Answer.{Answer, refused, gives, and_then, only}
use Rattle.answer.specs.declared.Refused.{Refused}
use Rattle.answer.specs.Refused as refusals
use Rattle.text.specs.Ascii.{ascii}
use Rattle.text.specs.Bytes.{eq_bytes, slice}
use Rattle.text.specs.Split.{split, onto}
use Rattle.lines.specs.Words.{words, word_at}
use Rattle.lines.specs.Hex.{are_pairs, pairs, bytes_of, fitting, counted, in_front, Decodes}
use Rattle.trace.specs.declared.EventAt.{EventAt}
use Rattle.trace.specs.Layout.{entry_at}
use Rattle.trace.specs.Calls.{appended, event, read_at, meaning_reading, shown, Placed, PlacedIn, Read, length_of, after, meaning_written, Wrote}
use Rattle.lines.specs.Out.{FitsBuffer}
use Rattle.lines.specs.Number.{number_of, decimal_text}
use Rattle.lines.specs.Flag.{flag_of}
use Rattle.payload.specs.declared.Datatype.{Datatype}
use Rattle.payload.specs.Datatypes.{datatype_named}
use Rattle.topic.specs.declared.Topic.{Topic}
use Rattle.topic.specs.Meaning.{form_at, meaning, Shows}
use Rattle.topic.specs.Topics.{read_topic}
use Rattle.description.specs.Description as description
use Rattle.description.proofs.Theorems.{told-nothing, told_at}
use Rattle.judge.specs.Texts.{numbers_text, told, form_text, event_text, used_text}
use Rattle.judge.specs.Parts.{told_text}
use Rattle.judge.specs.Questions.{of_topic, of_description, of_event, of_append}

-- ---- words of a line

onto-short : (b k n : ℕ) (ps : List (List ℕ)) → ((j : ℕ) → length (get_or ps j []) ≤ n) → length (get_or (onto b ps) k []) ≤ suc n
unfolding onto
onto-short b zero n [] h = omega arith
onto-short b (suc k) n [] h = omega arith
onto-short b zero n (p ∷ ps) h = let l = h 0 in omega arith
onto-short b (suc k) n (p ∷ ps) h = let l = h (suc k) in omega arith

split-short : (sep : ℕ) (s : List ℕ) (k : ℕ) → length (get_or (split sep s) k []) ≤ length s
unfolding split
split-short sep [] zero = omega arith
split-short sep [] (suc k) = omega arith
split-short sep (b ∷ s) k = pick (eqb b sep) k (λ j. split-short sep s j)
  where
    pick : (t : Bool) (j : ℕ) → ((i : ℕ) → length (get_or (split sep s) i []) ≤ length s) → length (get_or (cond t ([] ∷ split sep s) (onto b (split sep s))) j []) ≤ suc (length s)
    pick true zero h = omega arith
    pick true (suc j) h = let l = h j in omega arith
    pick false j h = onto-short b j (length s) (split sep s) h

pub word-short : (line : List ℕ) (k : ℕ) → length (word_at line k) ≤ length line
unfolding word_at words
word-short line k = split-short 32 line k

-- ---- bytes of a word, decoded into memory with room for all of them

pairs-short : (w : List ℕ) → 2 * length (pairs w) ≤ length w
unfolding pairs
pairs-short [] = omega arith
pairs-short (a ∷ []) = omega arith
pairs-short (a ∷ (b ∷ s)) = let l = pairs-short s in omega arith

all_fit : (w : List ℕ) (n : ℕ) → length w ≤ 2 * n → fitting n (bytes_of w) ≡ bytes_of w
unfolding bytes_of fitting
all_fit w n h = pick (eq_bytes w (ascii "-")) (leb 1 (length w) && are_pairs w)
  where
    pick : (a b : Bool) → fitting n (cond a (Some []) (cond b (Some (pairs w)) None)) ≡ cond a (Some []) (cond b (Some (pairs w)) None)
    pick true b = rw (le-leb 0 n (omega arith))
    pick false true = rw (le-leb (length (pairs w)) n (omega (arith, pairs-short w)))
    pick false false = refl

-- the first n bytes of the memory are what the word says
pub record Got (o : Option (List ℕ)) (d : List ℕ) (n : ℕ) : Type 0 where
  pub bytes : o ≡ Some (slice d 0 n)
  pub inside : n ≤ length d

got : (d : List ℕ) (o : Option (List ℕ)) (n : ℕ) → Some n ≡ counted o → Got o (in_front d o) n
unfolding counted in_front
got d None n e = let z : ◌≡◌ {A = ℕ} 0 1 = cc in absurd (omega arith)
got d (Some b) n e =
    let k : n ≡ length b = cc in
    let z : length b - 0 ≡ length b = omega arith in
    record { bytes = rw (k, z, take_at b (drop (length b) d) (length b) refl); inside = rw length-append (omega arith) }

missed : (o : Option (List ℕ)) → None ≡ counted o → o ≡ None
unfolding counted
missed None e = refl
missed (Some b) e = let z : ◌≡◌ {A = ℕ} 0 1 = cc in absurd (omega arith)

module _ {w d d' : List ℕ} {r : Option ℕ} (p : Decodes w d r d') (h : length w ≤ 2 * length d) where
  pub decoded : (n : ℕ) → r ≡ Some n → Got (bytes_of w) d' n
  decoded n e =
      let f : fitting (length d) (bytes_of w) ≡ bytes_of w = all_fit w (length d) h in
      let a : Some n ≡ counted (bytes_of w) = sym e ∙ rw f at p.answer in
      let m : d' ≡ in_front d (bytes_of w) = rw f at p.memory in
      rw m (got d (bytes_of w) n a)

  pub not-decoded : r ≡ None → bytes_of w ≡ None
  not-decoded e =
      let f : fitting (length d) (bytes_of w) ≡ bytes_of w = all_fit w (length d) h in
      missed (bytes_of w) (sym e ∙ rw f at p.answer)

-- the same, where the word is one of the line
module _ (line : List ℕ) (k : ℕ) {w d d' : List ℕ} {r : Option ℕ} (e : w ≡ word_at line k) (p : Decodes w d r d') (h : length line ≤ 65536) (m : 65536 ≡ length d) where
  fits_word : length w ≤ 2 * length d
  fits_word = rw e (let l = word-short line k in omega arith)

  pub word_bytes : (n : ℕ) → r ≡ Some n → Got (bytes_of (word_at line k)) d' n
  word_bytes n q = rw e at (decoded p fits_word n q)

  pub word_none : r ≡ None → bytes_of (word_at line k) ≡ None
  word_none q = rw e at (not-decoded p fits_word q)

-- ---- other words

module _ (line : List ℕ) (k : ℕ) {w : List ℕ} (e : w ≡ word_at line k) where
  pub word-named : {r : Option Datatype} {d : Datatype} → r ≡ datatype_named w → r ≡ Some d → datatype_named (word_at line k) ≡ Some d
  word-named p q = sym (rw (e, q) at p)

  pub word_unnamed : {r : Option Datatype} → r ≡ datatype_named w → r ≡ None → datatype_named (word_at line k) ≡ None
  word_unnamed p q = sym (rw (e, q) at p)

  pub word_number : {r : Option ℕ} {n : ℕ} → r ≡ number_of w → r ≡ Some n → number_of (word_at line k) ≡ Some n
  word_number p q = sym (rw (e, q) at p)

  pub word_no-number : {r : Option ℕ} → r ≡ number_of w → r ≡ None → number_of (word_at line k) ≡ None
  word_no-number p q = sym (rw (e, q) at p)

  pub word-flag : {r : Option Bool} {b : Bool} → r ≡ flag_of w → r ≡ Some b → flag_of (word_at line k) ≡ Some b
  word-flag p q = sym (rw (e, q) at p)

  pub word_no-flag : {r : Option Bool} → r ≡ flag_of w → r ≡ None → flag_of (word_at line k) ≡ None
  word_no-flag p q = sym (rw (e, q) at p)

-- ---- answers of the trace

module _ {f : List ℕ} {i : ℕ} {r : Result EventAt Refused} (p : Read f i r) where
  pub read-refused : (k : Refused) → r ≡ Err k → read_at f i ≡ refused (refusals.refusal_of k)
  unfolding meaning_reading
  read-refused k e = sym (rw e at p.answer)

  pub read_found : (e : EventAt) → r ≡ Ok e → read_at f i ≡ gives (shown f e)
  unfolding meaning_reading
  read_found e q = sym (rw q at p.answer)

-- the buffer that is shown is the one afterwards
after-told : (m : List ℕ) (a : Answer (List ℕ)) → told (used_text (after m a)) (length_of a) ≡ told (λ file. used_text (after m (gives file)) (length file)) a
unfolding told length_of and_then after
after-told m (refused k) = refl
after-told m (gives f) = refl

pub append-says : (m : List ℕ) (u t : ℕ) (topic : List ℕ) (b : Bool) (payload : List ℕ) {r : Result ℕ Refused} {m' : List ℕ} → Wrote m (appended m u (event t topic b payload)) r m' → told (used_text m') (meaning_written r) ≡ of_append m u t topic b payload
unfolding of_append
append-says m u t topic b payload p = rw (p.memory, p.answer) (after-told m (appended m u (event t topic b payload)))

-- ---- slices of the input

pub slice_fits : (t : List ℕ) (s e : ℕ) → length t ≤ 65536 → length (slice t s e) ≤ 65536
slice_fits t s e h = simp (length-take, length-drop) (omega arith)

pub input-fits : (r : Option ℕ) (d : List ℕ) (n : ℕ) → FitsBuffer r d → r ≡ Some n → n < length d
input-fits r d n p e = rw e at p

pub input-short : (d : List ℕ) (n : ℕ) → n ≤ 65536 → length (take (n - 0) d) ≤ 65536
input-short d n h = simp length-take (omega arith)

-- ---- answers of the libraries as text

module _ (domain topic : List ℕ) {at : ℕ} {r : Result Topic Refused} (p : Shows topic at (read_topic domain topic) r) where
  pub topic-form : (t : Topic) → r ≡ Ok t → form_text (form_at topic t) ≡ of_topic domain topic
  unfolding of_topic told
  topic-form t e = ap (λ (s : Result Topic Refused). told form_text (meaning topic s)) (sym e) ∙ ap (told form_text) p.says

  pub topic-refused : (e : Refused) (n : ℕ) → r ≡ Err e → n ≡ paper_number e → ascii "refused " ++ decimal_text n ≡ of_topic domain topic
  unfolding of_topic told numbers_text
  topic-refused e n q k = rw k (ap (λ (s : Result Topic Refused). told form_text (meaning topic s)) (sym q) ∙ ap (told form_text) p.says)

pub description-says : (own s : List ℕ) (t : Option Fault) → t ≡ description.told own s → told_text t ≡ of_description own s
unfolding of_description told_text told
description-says own s None p = sym (ap (told (λ (d : description.Described). ascii "yes")) (told-nothing own s (sym p)))
description-says own s (Some x) p = sym (ap (told (λ (d : description.Described). ascii "yes")) (told_at own s (sym p)))

module _ {f : List ℕ} {i : ℕ} {r : Result EventAt Refused} (p : Read f i r) where
  pub event-refused : (k : Refused) → r ≡ Err k → ascii "refused " ++ decimal_text (refusals.number_of k) ≡ of_event f i
  unfolding of_event told numbers_text
  event-refused k e = rw (read-refused p k e)

  pub event-found : (e : EventAt) → r ≡ Ok e → event_text (shown f e) ≡ of_event f i
  unfolding of_event told
  event-found e q = rw (read_found p e q)
