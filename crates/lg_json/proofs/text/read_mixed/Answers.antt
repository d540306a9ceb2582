use Rattle.std.proofs.Common.{sym, ◌∙◌}
use Rattle.lg_json.proofs.Tokens.{text_utf8, text_ends, text_stops, text_open}
use Rattle.lg_json.proofs.text.read_mixed.Goals as goal

pub from_vec-requires : goal.from_vec-requires
from_vec-requires c = text_utf8 c.args.bytes.now c.args.place c.pieces.at _ c.pieces.text.items c.pieces.mode c.pieces.invariant (sym c.closes.ensures ∙ c.if-closes.true)

pub returns-then-closes : goal.returns-then-closes
returns-then-closes c =
    rw c.from_vec.ensures (text_ends c.args.bytes.now c.args.place c.pieces.at c.pieces.text.items c.pieces.mode c.pieces.invariant c.pieces-test.true (sym c.closes.ensures ∙ c.if-closes.true))

pub returns-in-None : goal.returns-in-None
returns-in-None c =
    text_stops c.args.bytes.now c.args.place c.pieces.at c.pieces.text.items c.pieces.mode c.pieces.invariant c.pieces-test.true (sym c.closes.ensures ∙ c.if-closes.false) (rw c.in-None.is at c.in_ok-next.ensures)

pub returns : goal.returns
returns c = λ fs role. text_open c.args.bytes.now c.args.place c.pieces.at c.pieces.text.items c.pieces.mode fs role c.pieces.invariant c.pieces-test.false
