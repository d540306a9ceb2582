use Rattle.lg_json.proofs.Tokens.{WordSoFar}
use Rattle.lg_json.proofs.word.read_word.Given as goal

abbrev pub invariant-loop-byte : goal.invariant-loop-byte
invariant-loop-byte l = WordSoFar l.bytes l.place l.rest l.byte-index l.at
