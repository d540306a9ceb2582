use Rattle.lg_json.proofs.Tokens.{word_one, word_cut_in, word_stops_in, word_done_in}
use Rattle.lg_json.proofs.word.read_word.Goals as goal

pub returns-then-at-bytes : goal.returns-then-at-bytes
returns-then-at-bytes c = word_cut_in c.args.bytes.now c.args.place c.args.rest.now c.loop-byte.byte-index c.loop-byte.at c.requires.some c.loop-byte.invariant c.loop-byte-test.true c.if-at-bytes.true

pub returns-then-bytes-at : goal.returns-then-bytes-at
returns-then-bytes-at c = word_stops_in c.args.bytes.now c.args.place c.args.rest.now c.loop-byte.byte-index c.loop-byte.at c.requires.some c.loop-byte.invariant c.loop-byte-test.true c.if-at-bytes.false c.if-bytes-at.true

pub loop-byte-preserved : goal.loop-byte-preserved
loop-byte-preserved c = word_one c.args.bytes.now c.args.place c.args.rest.now c.loop-byte.byte-index c.loop-byte.at c.loop-byte.invariant c.loop-byte-test.true c.if-at-bytes.false c.if-bytes-at.false

pub returns : goal.returns
returns c = (c.loop-byte.invariant.above, c.loop-byte.invariant.within, word_done_in c.args.bytes.now c.args.place c.args.rest.now c.loop-byte.byte-index c.loop-byte.at c.requires.some c.loop-byte.invariant c.loop-byte-test.false)
