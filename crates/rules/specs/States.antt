-- Paper 01, "The table": "state (`init`, `ready`, `disconnected`, `sleeping`, `lost`)".
use Rattle.std.specs.Prelude.{ℕ, List, [], ◌∷◌, cond, get_or, Option, None, Some}
use Rattle.text.specs.Ascii.{ascii}
use Rattle.text.specs.Bytes.{eq_bytes}
use Rattle.rules.specs.declared.DeviceState.{DeviceState}
use Rattle.rules.specs.declared.DeviceState.TheVariants.{Init, Ready, Disconnected, Sleeping, Lost}

abbrev pub device_states : List DeviceState
device_states = Init ∷ Ready ∷ Disconnected ∷ Sleeping ∷ Lost ∷ []

abbrev pub word_of : DeviceState → List ℕ
word_of Init = ascii "init"
word_of Ready = ascii "ready"
word_of Disconnected = ascii "disconnected"
word_of Sleeping = ascii "sleeping"
word_of Lost = ascii "lost"

-- the state of a word
abbrev pub worded_in : List DeviceState → List ℕ → Option DeviceState
worded_in [] s = None
worded_in (x ∷ xs) s = cond (eq_bytes s (word_of x)) (Some x) (worded_in xs s)

unfoldable pub state_worded : List ℕ → Option DeviceState
state_worded s = worded_in device_states s

-- its place among the five, for memory; a number past the last is the last
unfoldable pub code_of : DeviceState → ℕ
code_of Init = 0
code_of Ready = 1
code_of Disconnected = 2
code_of Sleeping = 3
code_of Lost = 4

unfoldable pub state_at : ℕ → DeviceState
state_at n = get_or device_states n Lost
