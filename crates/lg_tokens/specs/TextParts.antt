-- The texts of the pieces that a token's text is made of.
use Rattle.std.specs.Prelude.{ℕ, Bool, true, false, List, [], ◌∷◌, ◌++◌, if◌then◌else◌, nat_eq, codes, decimal}
use Rattle.std.specs.List.{concat, flat_map}
use Rattle.lg_base.specs.Texts.{quoted, escaped}
use Rattle.lg_types.specs.PartTexts.{part_text, optional_text}
use Rattle.lg_types.specs.declared.filters.Filter.{Filter, All, Compare, Has, Both', Either', Not'}
use Rattle.lg_views.specs.Tokens.{kind_name, field_name, value_text, filter_text, after_text, expand_text, filter_member, pit_text, start_text, end_text}
use Rattle.lg_tokens.specs.declared.text_parts.TextPart.{TextPart}
use Rattle.lg_tokens.specs.declared.text_parts.TextPart.TheVariants.{Base, Quoted, Escaped}
use Rattle.lg_tokens.specs.declared.text_parts.ComparedPart.{ComparedPart}
use Rattle.lg_tokens.specs.declared.text_parts.ComparedPart.TheVariants.{Text as ComparedText, Field, Value}
use Rattle.lg_tokens.specs.declared.text_parts.TokenPart.{TokenPart}
use Rattle.lg_tokens.specs.declared.text_parts.TokenPart.TheVariants.{Text, Kind, Pit, Start, End, ByInsertion, Group, Expand, Filter as FilterPart, After}

abbrev pub text_part_text : TextPart → List ℕ
text_part_text (Base part) = part_text part
text_part_text (Quoted bytes) = quoted bytes.now
text_part_text (Escaped bytes) = flat_map escaped bytes.now

abbrev pub compared_part_text : ComparedPart → List ℕ
compared_part_text (ComparedText part) = text_part_text part
compared_part_text (Field field) = quoted (field_name field.now)
compared_part_text (Value value) = value_text value.now

-- the comma before each filter but the first
abbrev pub comma_unless : Bool → List ℕ
comma_unless true = []
comma_unless false = codes ","

-- the texts of filters, each after its comma; the first of them may be the first of all
abbrev pub parted : Bool → List Filter → List ℕ
parted is_first [] = []
parted is_first (f ∷ fs) = (comma_unless is_first ++ filter_text f) ++ parted false fs

-- the name of an object's one member, as the object begins
abbrev pub opening : List ℕ → List ℕ
opening name = concat (codes "{" ∷ quoted name ∷ codes ":" ∷ [])

abbrev pub by_insertion_text : Bool → List ℕ
by_insertion_text by_insertion = (if by_insertion then codes ",\"insertionDate\":true" else [])

abbrev pub group_text : ℕ → List ℕ
group_text group = (if nat_eq group 0 then [] else concat (codes ",\"groupBy\":" ∷ decimal group ∷ []))

-- the filter that all items pass, with which a token has no filter
abbrev pub is_all_items : Filter → Bool
is_all_items All = true
is_all_items (Compare op f v) = false
is_all_items (Has name) = false
is_all_items (Both' shape filters) = false
is_all_items (Either' shape filters) = false
is_all_items (Not' shape filter) = false

abbrev pub token_part_text : TokenPart → List ℕ
token_part_text (Text part) = text_part_text part
token_part_text (Kind kind) = quoted (kind_name kind)
token_part_text (Pit date) = optional_text pit_text date.now
token_part_text (Start date) = optional_text start_text date.now
token_part_text (End date) = optional_text end_text date.now
token_part_text (ByInsertion by_insertion) = by_insertion_text by_insertion
token_part_text (Group group) = group_text group
token_part_text (Expand expand) = expand_text expand.volumes expand.effective
token_part_text (FilterPart filter) = filter_member filter.now
token_part_text (After after) = after_text after.now
