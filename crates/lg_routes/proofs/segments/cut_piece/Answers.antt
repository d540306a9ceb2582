use Rattle.std.proofs.Common.{◌==◌, ℕ, sym, ◌∙◌, length, arith}
use Rattle.lg_readings.specs.Targets.{is_slash}
use Rattle.lg_routes.proofs.Pieces.{cut_at, cut_none, within}
use Rattle.std.proofs.lemmas.Grind.{common_steps}
use Rattle.lg_routes.proofs.segments.cut_piece.Goals as goal

pub returns-in-Some : goal.returns-in-Some
returns-in-Some c =
    let found = sym c.slash_place.ensures ∙ c.in-Some.is in
    let inside = within is_slash c.args.path.now c.in-Some.place found in
    (cut_at is_slash c.args.path.now c.in-Some.place found, grind (arith, common_steps))

pub returns-in-None : goal.returns-in-None
returns-in-None c = cut_none is_slash c.args.path.now (sym c.slash_place.ensures ∙ c.in-None.is)
