-- What memory means after a change, a step back, and an opening.
use Prim.Native.Nat.{ℕ}
use mathlib.Core.Path.{◌≡◌, refl, ap, ◌∙◌}
use mathlib.Core.Bool.{true, cond}
use mathlib.Core.List.{List, [], ◌∷◌, map}
use lib.ListN.{take}
use Rattle.text.specs.Ids.{is_id}
use Rattle.memory.specs.Layout as layout
use Rattle.memory.specs.Sound as soundness
use Rattle.memory.specs.State as memory
use Rattle.memory.specs.State.{Now, Change, state, change, made, undone, offered}
use Rattle.memory.proofs.Lists.{length-map}
use Rattle.memory.proofs.Theorems.{steps_are}
use Rattle.journal.specs.Contract as journal
use Rattle.book.specs.Book.{State, step_back, steps, fresh, popped, pop_says}
use Rattle.answer.specs.Answer.{refused, gives, only}
use Rattle.rules.specs.Table.{Table}
use Rattle.rules.specs.Questions.{taken, a_number}
use Rattle.rules.specs.Rules.{rules}
use Rattle.device.specs.Decode.{is_set}
use Rattle.lookup.specs.Meaning.{Sound, Opening, last_of, table_of, opening_of, means}
use Rattle.lookup.specs.Contract.{answer_of}
use Rattle.lookup.proofs.Lists.{map-take}

-- what the parts of a state of memory mean
meant : memory.State → State Table
meant s = record { now = table_of s.now; past = map table_of s.past }

opened_with : memory.State → Opening
opened_with s = record { domain = s.domain; devices = s.capacity; depth = s.depth }

means_is : (m : List ℕ) (s : memory.State) → state m ≡ s → means m ≡ meant s
unfolding means meant
means_is m s e = ap meant e

opening_is : (m : List ℕ) (s : memory.State) → state m ≡ s → opening_of m ≡ opened_with s
unfolding opening_of opened_with
opening_is m s e = ap opened_with e

sound_by : (m : List ℕ) (s : memory.State) → soundness.Sound m → state m ≡ s → is_id s.domain ≡ true → Sound m
sound_by m s x e i = record { memory = x; domain = ap (λ (t : memory.State). is_id t.domain) e ∙ i }

-- ---- a change

module _ (m m' : List ℕ) (c : Change) (e : state m' ≡ made c (state m)) where
  pub made-means : means m' ≡ record { now = table_of (change c (state m).now); past = take (opening_of m).depth ((means m).now ∷ (means m).past) }
  unfolding means opening_of meant
  made-means =
      means_is m' (made c (state m)) e
      ∙ ap (λ (l : List Table). record { now = table_of (change c (state m).now); past = l }) (map-take table_of (state m).depth ((state m).now ∷ (state m).past))

  pub made-opening : opening_of m' ≡ opening_of m
  unfolding opening_of opened_with
  made-opening = opening_is m' (made c (state m)) e

  pub made-sound : Sound m → soundness.Sound m' → Sound m'
  made-sound s x = sound_by m' (made c (state m)) x e s.domain

-- ---- a step back

popped_is : (d : List ℕ) (n : ℕ) (s : memory.State) (ts : List Now) → meant (memory.undone_to s ts) ≡ popped (rules d n) (meant s) (map table_of ts)
unfolding meant
popped_is d n s [] = refl
popped_is d n s (t ∷ ts) = refl

opening-stays : (s : memory.State) (ts : List Now) → opened_with (memory.undone_to s ts) ≡ opened_with s
unfolding opened_with
opening-stays s [] = refl
opening-stays s (t ∷ ts) = refl

module _ (m m' : List ℕ) (e : state m' ≡ undone (state m)) where
  pub undone-means : (d : List ℕ) (n : ℕ) → means m' ≡ popped (rules d n) (means m) (means m).past
  unfolding means meant
  undone-means d n = means_is m' (undone (state m)) e ∙ popped_is d n (state m) (state m).past

  pub undone-opening : opening_of m' ≡ opening_of m
  unfolding opening_of opened_with
  undone-opening = opening_is m' (undone (state m)) e ∙ opening-stays (state m) (state m).past

  pub undone-sound : Sound m → soundness.Sound m' → Sound m'
  unfolding opening_of
  undone-sound s x = record { memory = x; domain = ap (λ (o : Opening). is_id o.domain) undone-opening ∙ s.domain }

says_by : (d : List ℕ) (n : ℕ) (ts : List Now) → pop_says (rules d n) (map table_of ts) ≡ cond (offered ts) (gives taken) (refused (only 18))
says_by d n [] = refl
says_by d n (t ∷ ts) = refl

-- the answer to a step back, as the journal says whether one is on offer
pub back-says : (m : List ℕ) → answer_of m step_back ≡ cond (offered (state m).past) (gives taken) (refused (only 18))
unfolding means
back-says m = says_by (opening_of m).domain (opening_of m).devices (state m).past

pub steps-says : (m : List ℕ) → answer_of m steps ≡ gives (a_number (layout.steps m))
unfolding means
steps-says m = ap (λ (n : ℕ). gives (a_number n)) (length-map table_of (state m).past ∙ steps_are m)

-- ---- an opening

module _ (m domain : List ℕ) (d j : ℕ) (rooms : List (List ℕ)) (e : state m ≡ journal.fresh domain d j rooms) where
  pub opened-means : (a : List ℕ) (n : ℕ) → means m ≡ fresh (rules a n)
  unfolding meant table_of last_of is_set
  opened-means a n = means_is m (journal.fresh domain d j rooms) e

  pub opened-opening : opening_of m ≡ record { domain = domain; devices = d; depth = j }
  unfolding opened_with
  opened-opening = opening_is m (journal.fresh domain d j rooms) e

  pub opened-sound : is_id domain ≡ true → soundness.Sound m → Sound m
  opened-sound i x = sound_by m (journal.fresh domain d j rooms) x e i
