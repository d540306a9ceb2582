-- The bytes that are pushed are those of the encoding of a character of their number of bytes.
use Rattle.std.proofs.Common.{rules, tests}
use Rattle.std.specs.Char.{encode_utf8}
use Rattle.lg_json.proofs.text_step.push_char.Goals as goal

pub returns-then-code-lt2048 : goal.returns-then-code-lt2048
unfolding encode_utf8
returns-then-code-lt2048 c = search (tests, rules)

pub returns-then-code-lt65536 : goal.returns-then-code-lt65536
unfolding encode_utf8
returns-then-code-lt65536 c = search (tests, rules)

pub returns-else-code-lt65536 : goal.returns-else-code-lt65536
unfolding encode_utf8
returns-else-code-lt65536 c = search (tests, rules)
