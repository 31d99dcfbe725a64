-- The paper's worked trace is answered as it is written there, by computation.
use mathlib.Core.Path.{◌≡◌, refl}
use Rattle.text.specs.Ascii.{ascii}
use Rattle.book.specs.Book.{blank, answers}
use Rattle.rules.specs.Rules.{rules}
use Rattle.rules.specs.Examples.{calls, expected}
use Rattle.abnf.specs.Accepts as abnf
use Rattle.answer.specs.Answer as answer
use Rattle.text.specs.Bytes as bytes
use Rattle.text.specs.Ids as ids
use Rattle.text.specs.Split as levels
use Rattle.text.specs.Utf8 as utf8
use Rattle.topic.specs.Flags as flags
use Rattle.topic.specs.Topics as topics
use Rattle.numbers.specs.Digits as digits
use Rattle.numbers.specs.Integer as integers
use Rattle.json_text.specs.Bytes as json
use Rattle.json_text.specs.Members as members
use Rattle.json_text.specs.Number as number
use Rattle.json_text.specs.Strings as strings
use Rattle.json_text.specs.Value as value
use Rattle.escapes.specs.Decode as escapes
use Rattle.fields.specs.Fields as fields
use Rattle.fields.specs.Values as values
use Rattle.entries.specs.Entries as entries
use Rattle.payload.specs.Datatypes as datatypes
use Rattle.payload.specs.Formats as formats
use Rattle.payload.specs.Payloads as payloads
use Rattle.properties.specs.Property as property
use Rattle.nodes.specs.Nodes as nodes
use Rattle.description.specs.Description as description
use Rattle.faults.specs.Faults as faults
use Rattle.fields.specs.Names as names
use Rattle.json_grammar.specs.Place as places
use Rattle.book.specs.Book as book
use Rattle.rules.specs.Find as devices
use Rattle.rules.specs.Messages as messages
use Rattle.rules.specs.Questions as questions
use Rattle.rules.specs.Rules as outcomes
use Rattle.rules.specs.States as states
use Rattle.rules.specs.Table as table
use Rattle.rules.specs.Handover as handover

pub worked_trace : answers (rules (ascii "homie") 4) 3 (blank (rules (ascii "homie") 4)) calls ≡ expected
unfolding abnf.is_empty abnf.again abnf.starts abnf.accepts answer.require answer.and_then bytes.every ids.id_byte ids.is_id levels.onto levels.split utf8.is_utf8 utf8.starts_bom
    utf8.is_text flags.flag_of flags.admits topics.is topics.fits topics.end topics.when◌give◌else◌ topics.form_of topics.read_levels topics.read_topic digits.digits
    digits.numeral integers.value json.byte json.run json.past json.is_ws json.ws json.word json.and_then members.next_at members.item_at members.member_at members.list_from
    members.members_at number.is_digit number.digits_end number.optional number.is_minus number.some_digits number.int_at number.frac_at number.is_exp number.exp_at number.number_at
    strings.plain_step strings.text_step strings.text strings.string_at value.kind_of value.after value.series value.list_of value.colon value.key_at value.member_of value.object_of
    value.value_of value.value_at value.at_end value.document_of faults.◌otherwise◌ faults.is_earlier faults.earlier faults.least names.known_names names.is_one_of names.is_known
    fields.one_more fields.field_in fields.field fields.is_present fields.text_in fields.flag_in fields.members_in fields.of_kind fields.among fields.string_faults fields.id_faults
    fields.array_faults fields.kind_faults fields.field_faults fields.close_at fields.unless_half fields.decoded_faults fields.id_rule fields.is_first fields.first_of fields.comes_first fields.repeat_faults fields.name_faults_of fields.name_faults fields.entry_faults
    values.value_bytes values.string_bytes values.is_string_at values.is_number_at values.is_object values.is_true values.is_flag values.members values.decoded_at values.is_named strings.raw_bytes escapes.join escapes.decode_after escapes.bytes_of escapes.is_this
    entries.none_empty entries.no_repeats datatypes.datatype_named formats.kept_format payloads.is_payload
    property.datatype_in property.datatype_rule property.datatype_faults property.format_rule property.is_kept property.given_faults property.format_faults property.property_field_faults property.property_faults property.type_of
    property.text_of property.property_at property.insert property.insert_all nodes.each nodes.property_member nodes.node_field_faults nodes.node_faults nodes.node_member nodes.named_by
    nodes.named_in nodes.too_many_at nodes.too_many nodes.nodes_faults nodes.properties_among nodes.properties_of places.bad_place places.place_unless places.bad_places description.all_digits
    description.is_minor description.is_homie description.homie_rule description.homie_faults description.version_in description.is_number description.version_faults description.other_faults
    description.relative_faults description.root_faults description.parent_rule description.parent_faults description.declared description.device_field_faults description.device_faults
    description.json_faults description.faults description.told description.described_in description.answered description.describe
    book.from book.answers devices.find devices.change devices.insert devices.is_named devices.find_property devices.change_property devices.in_description devices.in_device
    messages.is_empty messages.make_or_update messages.by_word messages.obey_state messages.redescribed messages.described_by messages.obey_description messages.held_by messages.fill messages.is_valid
    messages.same_flag messages.value_rules messages.set_rules messages.lane_rules messages.obey_lane messages.obey messages.is_due messages.admitted_form messages.message questions.at
    questions.root_lost questions.effective questions.reply outcomes.outcome states.state_worded table.lane_of table.with_lane table.root_of table.properties_of handover.succeeding
    handover.successor handover.republished bytes.eq_bytes entries.is_in
worked_trace = refl
