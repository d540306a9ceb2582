-- What the parts of a request stand for.
use Rattle.std.specs.Prelude.{ℕ, ◌+◌, List, [], ◌++◌, length, Option, Some, None, map, if◌then◌else◌}
use Rattle.std.specs.Borrow.{Bor}
use Rattle.std.specs.Cow.{cow_str_bytes, cow_slice_items}
use Rattle.std.specs.List.{list_all, slice_split}
use Rattle.std.specs.Option.{option_map}
use Rattle.std.specs.declared.borrow.CowSlice.{CowSlice}
use Rattle.form_urlencoded.specs.Form.{is_nonempty}
use Rattle.percent_encoding.specs.Percent.{percent_decode}
use Rattle.lg_readings.specs.Targets.{is_slash}
use Rattle.lg_readings.specs.Targets as targets
use Rattle.lg_routes.specs.declared.parameters.Parameter.{Parameter}

-- decoded segments
abbrev pub segments_seen : {Z : Type 0} → List (CowSlice ℕ Z) → List (List ℕ)
segments_seen segments = map cow_slice_items segments

-- the pieces decoded, where none is empty
abbrev pub decoded : List (List ℕ) → Option (List (List ℕ))
decoded pieces = if list_all is_nonempty pieces then Some (map percent_decode pieces) else None

-- the pieces of what is left of a path; none where nothing is left
abbrev pub pieces_left : Option (Bor (List ℕ)) → List (List ℕ)
pieces_left None = []
pieces_left (Some left) = slice_split is_slash left.now

abbrev pub parameter_seen : Parameter → targets.Parameter
parameter_seen p = (cow_str_bytes p.name, cow_str_bytes p.value)

abbrev pub parameters_seen : List Parameter → List targets.Parameter
parameters_seen ps = map parameter_seen ps

-- bytes that are lent, where there are some
abbrev pub bytes_seen : Option (Bor (List ℕ)) → Option (List ℕ)
bytes_seen bytes = option_map (λ b. b.now) bytes

-- how many bytes are left of a path, and one more where something is left
abbrev pub left_size : Option (Bor (List ℕ)) → ℕ
left_size None = 0
left_size (Some left) = length left.now + 1
