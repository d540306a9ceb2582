use Rattle.std.proofs.Common.{map, length, sym, ◌∙◌, arith}
use Rattle.std.proofs.lemmas.List.{length-map}
use Rattle.std.specs.Cow.{cow_slice_items}
use Rattle.lg_routes.specs.Seen.{segments_seen}
use Rattle.lg_routes.specs.Table.{pattern_seen}
use Rattle.lg_routes.proofs.RouteLists.{differs}
use Rattle.lg_routes.proofs.matching.fits_path.Goals as goal

pub returns-then-path-segments : goal.returns-then-path-segments
returns-then-path-segments c =
    sym (differs (map pattern_seen c.args.path.now) (segments_seen c.args.segments.now)
    (λ e. c.if-path-segments.true (sym (length-map c.args.path.now pattern_seen) ∙ e ∙ length-map c.args.segments.now cow_slice_items)))
