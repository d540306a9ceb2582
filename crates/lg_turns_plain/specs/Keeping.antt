-- What kept events say of a stripe.
use Rattle.std.specs.Prelude.{ℕ, List}
use Rattle.std.specs.List.{flat_map}
use Rattle.lg_types.specs.Parts.{Share, shares_of}
use Rattle.lg_turns_plain.specs.declared.part.Kept.{Kept}

abbrev pub kept_share : ℕ → Kept → List Share
kept_share stripe kept = shares_of stripe kept.place kept.event

abbrev pub kept_shares : ℕ → List Kept → List Share
kept_shares stripe all = flat_map (kept_share stripe) all
