-- The bytes that are written, and what is read in them.
use Rattle.std.specs.Prelude.{Some}
use Prim.Native.Nat.{ℕ, suc, ◌+◌, ◌^◌, ◌≤◌, ◌<◌, min}
use native.Mathlib.Omega.{arith}
use native.Mathlib.Decide.{dec_lt}
use mathlib.Core.Path.{◌≡◌, refl, sym, ap, ◌∙◌, subst}
use mathlib.Core.List.{List, [], ◌∷◌, ◌++◌, append-nil}
use mathlib.Core.Bool.{true, false, not}
use lib.ListN.{length, get_or, set, take, drop, length-take, replicate}
use lib.Dec.{eqb, eqb-suc-zero}
use lib.Seq.{take_all, drop-drop}
use Rattle.little_endian.specs.Bytes.{le_bytes, u64, put}
use Rattle.little_endian.proofs.Numbers.{length-le_bytes, num-back}
use Rattle.little_endian.proofs.Put.{length-put, put_one, put_then}
use Rattle.memory.specs.Bytes.{span}
use Rattle.memory.proofs.Flat.{span_is}
use Rattle.rules.specs.declared.DeviceState.{DeviceState}
use Rattle.rules.specs.declared.DeviceState.TheVariants.{Init, Ready, Disconnected, Sleeping, Lost}
use Rattle.rules.specs.States.{code_of, state_at}
use Rattle.rules.specs.Messages.{with_state, new_device, is_empty}
use Rattle.text.specs.Ids.{id_most}
use Rattle.device.specs.Layout.{id_at, state_code_at, time_at, described_at, root_at, payload_at, payload_most}
use Rattle.device.specs.Decode.{is_set, text_at, held_at}
use Rattle.patch.specs.Makes.{Makes, LaneMakes, held_since}
use Rattle.patch.specs.Parts.{text_bytes}
use Rattle.patch.proofs.Frame.{put-new, put-before, put-after, front, byte-alike, set-alike, num-alike, text-alike}
use Rattle.patch.proofs.Changes.{state-makes, new-makes, lane-makes}

-- a byte string, written as its length byte and its bytes
take-least : (n most : ℕ) (s : List ℕ) → n ≡ min (length s) most → take n s ≡ take most s
take-least n most s e = elim (dec_lt (length s) most) as (λ _. take n s ≡ take most s) [
  | yes h ↦ take_all n s (omega arith) ∙ sym (take_all most s (omega arith))
  | no h ↦ (let q : n ≡ most = omega arith in ap (λ (i : ℕ). take i s) q)
]

pub text-written : (d e s : List ℕ) (at n most : ℕ) → n ≡ min (length s) most → at < length d → e ≡ put (set d at n) (at + 1) (take n s) → e ≡ put d at (text_bytes (take most s))
unfolding text_bytes
text-written d e s at n most q h w =
    let k : n ≡ length (take most s) = omega (arith, length-take most s) in
    w ∙ put_then d (set d at n) at (at + 1) (n ∷ []) (take n s) (put_one d at n h) (omega arith) refl
    ∙ (λ i. put d at (k i ∷ take-least n most s q i))

-- a part of a list, replaced
pub part-put : (d b s : List ℕ) (at n : ℕ) → b ≡ s → length s ≡ n → take at d ++ (b ++ drop n (drop at d)) ≡ put d at s
unfolding put
part-put d b s at n e l = rw (e, l, drop-drop)

pub length-bytes : (t : List ℕ) → length (text_bytes t) ≡ suc (length t)
unfolding text_bytes
length-bytes t = refl

-- what is read where it was written
pub number-back : (d : List ℕ) (at x : ℕ) → at + 8 ≤ length d → x < 2 ^ 64 → u64 (put d at (le_bytes 8 x)) at ≡ x
number-back d at x h q =
    let l : length (le_bytes 8 x) ≡ 8 = length-le_bytes 8 x in
    num-alike (front (put-new d (le_bytes 8 x) at (omega arith)) 8 (omega arith))
    ∙ num-back 8 0 x (le_bytes 8 x) [] (sym (append-nil (le_bytes 8 x))) q

pub byte-back : (d : List ℕ) (at v : ℕ) → at < length d → get_or (put d at (v ∷ [])) at 0 ≡ v
byte-back d at v h = byte-alike (put-new d (v ∷ []) at (omega arith)) 0 {b' = 0} (omega arith) (omega arith) (omega arith)

pub length_back : (d t : List ℕ) (at : ℕ) → at + 1 + length t ≤ length d → get_or (put d at (text_bytes t)) at 0 ≡ length t
unfolding text_bytes
length_back d t at h = byte-alike (put-new d (length t ∷ t) at (omega arith)) 0 {b' = 0} (omega arith) (omega arith) (omega arith)

pub text-back : (d t : List ℕ) (at most : ℕ) → at + 1 + most ≤ length d → length t ≤ most → text_at (put d at (text_bytes t)) at most ≡ t
unfolding text_at text_bytes
text-back d t at most h q =
    let fits : at + length (length t ∷ t) ≤ length d = omega arith in
    let n : min (get_or (put d at (length t ∷ t)) at 0) most ≡ length t = omega (arith, length_back d t at (omega arith)) in
    ap (span (put d at (length t ∷ t)) (at + 1)) n
    ∙ span_is (put d at (length t ∷ t)) t (at + 1) (length t) (omega (arith, length-put d at (length t ∷ t) fits)) refl
    (λ i z. byte-alike (put-new d (length t ∷ t) at fits) (suc i) {a' = at + 1 + i} {b' = suc i} (omega arith) (omega arith) (omega arith))

pub cut : (n : ℕ) (s : List ℕ) → length (take n s) ≤ n
cut n s = omega (arith, length-take n s)

pub length-text : (d t : List ℕ) (at most : ℕ) → at + 1 + most ≤ length d → length t ≤ most → length (put d at (text_bytes t)) ≡ length d
unfolding text_bytes
length-text d t at most h q = length-put d at (length t ∷ t) (omega arith)

state-back : (s : DeviceState) → state_at (code_of s) ≡ s
unfolding state_at code_of
state-back Init = refl
state-back Ready = refl
state-back Disconnected = refl
state-back Sleeping = refl
state-back Lost = refl

-- ---- the patches

pub state-written : (z bs : List ℕ) (s : DeviceState) (code time : ℕ) → length z ≡ 9 → code ≡ code_of s → time < 2 ^ 64 → bs ≡ put (set z 0 code) 1 (le_bytes 8 time)
    → Makes state_code_at bs (with_state s time)
state-written z bs s code time l e h w =
    let d : List ℕ = put z 0 (code ∷ []) in
    let n : length d ≡ 9 = length-put z 0 (code ∷ []) (omega arith) ∙ l in
    let f : 1 + length (le_bytes 8 time) ≤ length d = omega (arith, length-le_bytes 8 time) in
    let q : bs ≡ put d 1 (le_bytes 8 time) = w ∙ ap (λ (x : List ℕ). put x 1 (le_bytes 8 time)) (put_one z 0 code (omega arith)) in
    subst (λ (x : List ℕ). Makes state_code_at x (with_state s time)) (sym q)
    (state-makes (put d 1 (le_bytes 8 time)) s time (length-put d 1 (le_bytes 8 time) f ∙ n)
    (ap state_at (byte-alike (put-before d (le_bytes 8 time) 1 f 0 1 (omega arith)) 0 {a' = 0} {b' = 0} refl refl (omega arith) ∙ byte-back z 0 code (omega arith) ∙ e) ∙ state-back s)
    (number-back d 1 time (omega arith) h))

pub new-written : (z d bs t : List ℕ) (s : DeviceState) (code time : ℕ) → z ≡ replicate root_at 0 → length t ≤ 32 → code ≡ code_of s → time < 2 ^ 64
    → d ≡ put z 0 (text_bytes t) → bs ≡ put (set d state_code_at code) time_at (le_bytes 8 time) → Makes id_at bs (λ _. new_device t s time)
unfolding text_bytes is_set
new-written z d bs t s code time ez small e h ed w =
    let lz : length z ≡ root_at = ap length ez in
    let a : List ℕ = put z 0 (length t ∷ t) in
    let fa : 0 + length (length t ∷ t) ≤ length z = omega arith in
    let la : length a ≡ root_at = length-put z 0 (length t ∷ t) fa ∙ lz in
    let b : List ℕ = put a state_code_at (code ∷ []) in
    let fb : state_code_at + length (code ∷ []) ≤ length a = omega arith in
    let lb : length b ≡ root_at = length-put a state_code_at (code ∷ []) fb ∙ la in
    let x : List ℕ = put b time_at (le_bytes 8 time) in
    let fx : time_at + length (le_bytes 8 time) ≤ length b = omega (arith, length-le_bytes 8 time) in
    let lx : length x ≡ root_at = length-put b time_at (le_bytes 8 time) fx ∙ lb in
    let q : bs ≡ x = w ∙ ap (λ (y : List ℕ). put (set y state_code_at code) time_at (le_bytes 8 time)) ed ∙ ap (λ (y : List ℕ). put y time_at (le_bytes 8 time)) (put_one a state_code_at code (omega arith)) in
    let name = text-alike id_most (put-before b (le_bytes 8 time) time_at fx 0 33 (omega arith)) ∙ text-alike id_most (put-before a (code ∷ []) state_code_at fb 0 33 (omega arith)) ∙ text-back z t 0 32 (omega arith) small in
    let own = byte-alike (put-before b (le_bytes 8 time) time_at fx state_code_at 1 (omega arith)) 0 {a' = state_code_at} {b' = state_code_at} refl refl (omega arith) ∙ byte-back a state_code_at code (omega arith) ∙ e in
    let None = set-alike (put-after b (le_bytes 8 time) time_at fx described_at 1 (omega (arith, length-le_bytes 8 time)) (omega arith)) 0 {a' = described_at} {b' = described_at} refl refl (omega arith)
    ∙ set-alike (put-after a (code ∷ []) state_code_at fb described_at 1 (omega arith) (omega arith)) 0 {a' = described_at} {b' = described_at} refl refl (omega arith)
    ∙ set-alike (put-after z (length t ∷ t) 0 fa described_at 1 (omega arith) (omega arith)) 0 {a' = described_at} {b' = described_at} refl refl (omega arith)
    ∙ ap (λ (y : List ℕ). is_set y described_at) ez in
    subst (λ (y : List ℕ). Makes id_at y (λ _. new_device t s time)) (sym q)
    (new-makes x t s time lx name (ap state_at own ∙ state-back s) (number-back b time_at time (omega arith) h) None)

-- what a lane holds, by its time and its payload
is-set : (r : List ℕ) (at n : ℕ) → get_or r at 0 ≡ suc n → is_set r at ≡ true
unfolding is_set
is-set r at n e = ap (λ (x : ℕ). not (eqb x 0)) e ∙ ap not (eqb-suc-zero n)

is-not-set : (r : List ℕ) (at : ℕ) → get_or r at 0 ≡ 0 → is_set r at ≡ false
unfolding is_set
is-not-set r at e = ap (λ (x : ℕ). not (eqb x 0)) e

held_is : (r t : List ℕ) (time : ℕ) → get_or r payload_at 0 ≡ length t → u64 r 0 ≡ time → text_at r payload_at payload_most ≡ t → held_at r 0 ≡ held_since time t
unfolding held_at held_since is_empty
held_is r [] time en et ep = rw (is-not-set r payload_at en, held_at)
held_is r (b ∷ t) time en et ep = rw (is-set r payload_at (length t) en, held_at) (λ i. Some (record { time = et i; payload = ep i }))

pub lane-written : (z d bs t : List ℕ) (time : ℕ) → length z ≡ 57 → length t ≤ 48 → time < 2 ^ 64 → d ≡ put z 0 (le_bytes 8 time) → bs ≡ put d payload_at (text_bytes t) → LaneMakes bs (held_since time t)
lane-written z d bs t time l small h ed w =
    let n : length (le_bytes 8 time) ≡ 8 = length-le_bytes 8 time in
    let ld : length d ≡ 57 = ap length ed ∙ length-put z 0 (le_bytes 8 time) (omega arith) ∙ l in
    let lb : length bs ≡ 57 = ap length w ∙ length-text d t payload_at payload_most (omega arith) small ∙ ld in
    lane-makes bs (held_since time t) lb
    (held_is bs t time (ap (λ (y : List ℕ). get_or y payload_at 0) w ∙ length_back d t payload_at (omega arith))
    (ap (λ (y : List ℕ). u64 y 0) w ∙ num-alike (put-before d (text_bytes t) payload_at (fits d t ld small) 0 8 (omega arith)) ∙ ap (λ (y : List ℕ). u64 y 0) ed ∙ number-back z 0 time (omega arith) h)
    (ap (λ (y : List ℕ). text_at y payload_at payload_most) w ∙ text-back d t payload_at payload_most (omega arith) small))
  where
    fits : (d t : List ℕ) → length d ≡ 57 → length t ≤ 48 → payload_at + length (text_bytes t) ≤ length d
    fits d t l h = omega (arith, length-bytes t)
