-- What the private functions write, for their contracts only.
use Rattle.std.specs.Prelude.{ℕ, suc, ◌+◌, ◌≤◌, ◌<◌, min, ◌≡◌, Bool, true, cond, List, length, get_or, take, None, Option}
use Rattle.little_endian.specs.Bytes.{u64}
use Rattle.memory.specs.Bytes.{tab}
use Rattle.memory.specs.Layout.{room_size}
use Rattle.fields.specs.Fields.{text_in}
use Rattle.properties.specs.declared.Entry.{Entry}
use Rattle.properties.specs.declared.Entries.{Entries}
use Rattle.properties.specs.Property as declaration
use Rattle.properties.specs.Entries.{content, contents}
use Rattle.rules.specs.Table.{Property, empty_lanes}
use Rattle.text.specs.Ids.{id_most}
use Rattle.device.specs.Layout.{described_at, root_at, parent_at, version_at, count_at, properties_most, records_at, record_size, record_at, datatype_code_at, settable_at, retained_at, format_at}
use Rattle.device.specs.Decode.{is_set, text_at, optional_at, record_of, count_in}
use Rattle.imprint.specs.Fits.{FitsIdOrNone, FitsProperty, FitEach}

-- only bytes from a to b - 1 were written
pub record WritesWithin (m : List ℕ) (a b : ℕ) (m' : List ℕ) : Type 0 where
  pub kept : length m' ≡ length m
  pub below : (i : ℕ) → i < a → get_or m' i 0 ≡ get_or m i 0
  pub above : (i : ℕ) → b ≤ i → get_or m' i 0 ≡ get_or m i 0

-- a byte string, in a place for `most` bytes and their number
pub record Texted (m t : List ℕ) (at most : ℕ) (m' : List ℕ) : Type 0 where
  pub within : WritesWithin m at (at + suc most) m'
  pub size : get_or m' at 0 ≡ min (length t) most
  pub text : length t ≤ most → text_at m' at most ≡ t

unfoldable pub flag : Bool → ℕ
flag b = cond b 1 0

-- three bytes of the record at a place
pub record Traits (m : List ℕ) (at code-byte settable-byte retained-byte : ℕ) (m' : List ℕ) : Type 0 where
  pub within : WritesWithin m (at + datatype_code_at) (at + format_at) m'
  pub code : get_or m' (at + datatype_code_at) 0 ≡ code-byte
  pub settable : get_or m' (at + settable_at) 0 ≡ settable-byte
  pub retained : get_or m' (at + retained_at) 0 ≡ retained-byte

-- nothing from a place on
abbrev pub Blank : List ℕ → ℕ → Type 0
Blank m a = (i : ℕ) → a ≤ i → get_or m i 0 ≡ 0

-- a property, its lanes empty
abbrev pub bare : declaration.Property → Property
bare p = record { declared = p; value = None; target = None; asked = None }

pub record Recorded (m s : List ℕ) (e : Entry) (a : ℕ) (m' : List ℕ) : Type 0 where
  pub within : WritesWithin m a (a + record_size) m'
  pub written : FitsProperty (content s e) → record_of m' a ≡ bare (content s e)

-- the records of a list's properties
pub record Listed (m s : List ℕ) (l : Entries) (m' : List ℕ) : Type 0 where
  pub within : WritesWithin m records_at room_size m'
  pub rows : FitEach (contents s (take l.n l.items))
      → tab (min l.n properties_most) (λ i. record_of m' (record_at i)) ≡ empty_lanes (contents s (take l.n l.items))

-- root and parent
pub record Family (m s : List ℕ) (root parent : Option ℕ) (m' : List ℕ) : Type 0 where
  pub within : WritesWithin m root_at version_at m'
  pub rooted : FitsIdOrNone (text_in s root) → optional_at m' root_at id_most ≡ text_in s root
  pub parented : FitsIdOrNone (text_in s parent) → optional_at m' parent_at id_most ≡ text_in s parent

-- the head of a description with n properties
pub record Headed (m s : List ℕ) (root parent : Option ℕ) (version n : ℕ) (m' : List ℕ) : Type 0 where
  pub within : WritesWithin m described_at (suc count_at) m'
  pub there : is_set m' described_at ≡ true
  pub rooted : FitsIdOrNone (text_in s root) → optional_at m' root_at id_most ≡ text_in s root
  pub parented : FitsIdOrNone (text_in s parent) → optional_at m' parent_at id_most ≡ text_in s parent
  pub versioned : u64 m' version_at ≡ version
  pub count : count_in m' ≡ min n properties_most
