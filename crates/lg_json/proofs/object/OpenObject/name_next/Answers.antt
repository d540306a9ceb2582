use Rattle.std.proofs.Common.{true, false, Some, ap, ◌∙◌}
use Rattle.lg_json.proofs.Placing.{scanned}
use Rattle.lg_json.proofs.object.OpenObject.name_next.Goals as goal

pub returns-then-has_name : goal.returns-then-has_name
returns-then-has_name c =
    scanned c.args.self.now.0 c.as_slice.result.now c.args.name c.bytes.result.now c.has_name.result true (c.as_slice.ensures ∙ ap (λ p. p.0) c.self.view_is) c.bytes.ensures.value c.has_name.ensures c.if-has_name.true

pub returns : goal.returns
returns c = (
  scanned c.args.self.now.0 c.as_slice.result.now c.args.name c.bytes.result.now c.has_name.result false (c.as_slice.ensures ∙ ap (λ p. p.0) c.self.view_is) c.bytes.ensures.value c.has_name.ensures c.if-has_name.false,
  ap (λ p. (p.0, Some c.args.name)) c.self.view_is,
)
