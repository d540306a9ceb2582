use Rattle.std.proofs.Common.{Some, ap, ◌∙◌}
use Rattle.lg_json.proofs.Placing.{known_name, new_name}
use Rattle.lg_json.proofs.object.OpenObject.name_among_many.Goals as goal

pub returns-then-not-is_new : goal.returns-then-not-is_new
returns-then-not-is_new c =
    known_name c.args.self.now.0 c.as_slice.result.now c.args.name c.in-Ok.is_new c.look_up-looked.new.index (c.as_slice.ensures ∙ ap (λ p. p.0) c.self.view_is) c.if-not-is_new.true c.in-Ok.ensures

pub returns : goal.returns
returns c = (
  new_name c.args.self.now.0 c.as_slice.result.now c.args.name c.in-Ok.is_new c.look_up-looked.new.index (c.as_slice.ensures ∙ ap (λ p. p.0) c.self.view_is) c.if-not-is_new.false c.in-Ok.ensures,
  ap (λ p. (p.0, Some c.args.name)) c.self.view_is,
)
