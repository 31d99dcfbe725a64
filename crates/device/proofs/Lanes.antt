-- The three lanes of a property.
use Rattle.std.specs.Prelude.{None, Some}
use Prim.Native.Nat.{ℕ, ◌+◌}
use mathlib.Core.Path.{◌≡◌, refl, sym, ap, ◌∙◌}
use mathlib.Core.List.{List}
use mathlib.Core.Bool.{true, false}
use lib.ListN.{length, get_or}
use Rattle.little_endian.specs.Bytes.{u64}
use Rattle.payload.specs.Datatypes.{datatype_at}
use Rattle.text.specs.declared.Place.{Place}
use Rattle.rules.specs.Table as table
use Rattle.rules.specs.declared.LaneKind.{LaneKind}
use Rattle.rules.specs.declared.LaneKind.TheVariants.{Value, Target, Asked}
use Rattle.device.specs.declared.Property.{Property}
use Rattle.text.specs.Ids.{id_most}
use Rattle.device.specs.Layout.{node_at, property_at, datatype_code_at, settable_at, retained_at, format_at, format_most, payload_at, payload_most}
use Rattle.device.specs.Decode.{is_set, text_at, held_at, declared_at, record_of}
use Rattle.device.specs.Meaning.{TextIn, lane_number, chosen, held_in, LaneInside, LaneIn, declared_in, property_in, PropertyIn}
use Rattle.device.specs.Parts.{LanesAt}

-- a lane of a property, by its content
pub lane-holds : (room : List ℕ) (k : LaneKind) (p : Property) → held_in room (chosen k p) ≡ table.lane_of k (property_in room p)
unfolding property_in table.lane_of
lane-holds room Value p = refl
lane-holds room Target p = refl
lane-holds room Asked p = refl

pub there_yes : (r : List ℕ) (a : ℕ) → is_set r (a + payload_at) ≡ true → held_at r a ≡ Some (record { time = u64 r a; payload = text_at r (a + payload_at) payload_most })
unfolding held_at
there_yes r a e = rw (e, held_at)

pub there_no : (r : List ℕ) (a : ℕ) → is_set r (a + payload_at) ≡ false → held_at r a ≡ None
unfolding held_at
there_no r a e = rw (e, held_at)

-- the lane that is read there
pub filled_lane : (r : List ℕ) (a time : ℕ) (p : Place) → is_set r (a + payload_at) ≡ true → time ≡ u64 r a → TextIn r (text_at r (a + payload_at) payload_most) p → LaneIn r (held_at r a) (Some (record { time = time; payload = p }))
unfolding held_in
filled_lane r a time p e t w = record { says = rw (there_yes r a e, t, w.says); within = w.within }

pub empty_lane : (r : List ℕ) (a : ℕ) → is_set r (a + payload_at) ≡ false → LaneIn r (held_at r a) None
unfolding held_in
empty_lane r a e = record { says = sym (there_no r a e); within = tt }

-- as `property_at` finds it: a is the record's place, code the datatype's number
module _ (r : List ℕ) (a : ℕ) (p : Property) (code : ℕ) (node : TextIn r (text_at r (a + node_at) id_most) p.declared.node) (id : TextIn r (text_at r (a + property_at) id_most) p.declared.id)
    (byte : code ≡ get_or r (a + datatype_code_at) 0) (datatype : p.declared.datatype ≡ datatype_at code) (settable : p.declared.settable ≡ is_set r (a + settable_at)) (retained : p.declared.retained ≡ is_set r (a + retained_at))
    (format : TextIn r (text_at r (a + format_at) format_most) p.declared.format) (lanes : LanesAt r a p.lanes) where
  declared_is : declared_in r p.declared ≡ declared_at r a
  unfolding declared_in declared_at
  declared_is = rw (node.says, id.says, datatype, byte, format.says, settable, retained)

  record_is : property_in r p ≡ record_of r a
  unfolding property_in record_of chosen lane_number
  record_is = rw (declared_is, lanes.value.says, lanes.target.says, lanes.asked.says)

  lane-within : (k : LaneKind) → LaneInside (length r) (chosen k p)
  unfolding chosen lane_number
  lane-within Value = lanes.value.within
  lane-within Target = lanes.target.within
  lane-within Asked = lanes.asked.within

  pub record_in : (n : ℕ) → a ≡ n → PropertyIn r (record_of r n) p
  record_in n e = record {
    says = record_is ∙ ap (record_of r) e;
    within = record { declared = record { node = node.within; id = id.within; format = format.within }; lanes = lane-within };
  }
