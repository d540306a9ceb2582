-- The target of a request: the segments of its path, and the parameters of its query.
use Rattle.std.specs.Prelude.{ℕ, Bool, ◌==◌, List, [], ◌∷◌, map, Option, Some, None, if◌then◌else◌}
use Rattle.std.specs.List.{find, filter, list_all, slice_split}
use Rattle.std.specs.Option.{option_map}
use Rattle.std.specs.Str.{bytes_eq}
use Rattle.std.specs.Str.Lossy.{utf8_lossy}
use Rattle.form_urlencoded.specs.Form.{split_once, is_nonempty, raw_pairs, decode}
use Rattle.percent_encoding.specs.Percent.{percent_decode}

-- what stands before the first question mark, and what stands behind it
abbrev pub path_of : List ℕ → List ℕ
path_of target = (split_once 63 target).0

abbrev pub query_of : List ℕ → List ℕ
query_of target = (split_once 63 target).1

abbrev pub is_slash : ℕ → Bool
is_slash b = b == 47

-- the segments behind the first slash, where nothing stands before it and no segment is empty, each percent-decoded
abbrev pub segments_behind : List (List ℕ) → Option (List (List ℕ))
segments_behind ([] ∷ s ∷ ss) = if list_all is_nonempty (s ∷ ss) then Some (map percent_decode (s ∷ ss)) else None
segments_behind pieces = None

abbrev pub path_segments : List ℕ → Option (List (List ℕ))
path_segments target = segments_behind (slice_split is_slash (path_of target))

-- a name and a value, as the form means them (URL Standard, section 5.1)
abbrev pub Parameter : Type 0
Parameter = List ℕ × List ℕ

abbrev pub parameter_of : List ℕ × List ℕ → Parameter
parameter_of pair = (utf8_lossy (decode pair.0), utf8_lossy (decode pair.1))

-- the parameters of a target, in their order
abbrev pub parameters : List ℕ → List Parameter
parameters target = map parameter_of (raw_pairs (query_of target))

abbrev pub is_called : List ℕ → Parameter → Bool
is_called name p = bytes_eq p.0 name

abbrev pub value_in : Parameter → List ℕ
value_in p = p.1

-- of a repeated parameter the first counts
abbrev pub first_value : List ℕ → List Parameter → Option (List ℕ)
first_value name ps = option_map value_in (find (is_called name) ps)

-- all values of a parameter
abbrev pub all_values : List ℕ → List Parameter → List (List ℕ)
all_values name ps = map value_in (filter (is_called name) ps)
