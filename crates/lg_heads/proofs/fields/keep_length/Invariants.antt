use Rattle.std.proofs.Common.{◌≡◌, map, take, true}
use Rattle.std.specs.List.{list_all}
use Rattle.httparse.specs.Spans.{header_bytes}
use Rattle.lg_heads.specs.Fields.{keeps_length}
use Rattle.lg_heads.proofs.fields.keep_length.Given as goal

abbrev pub invariant-fields : goal.invariant-fields
invariant-fields l = list_all (keeps_length l.digits) (map (header_bytes l.bytes) (take l.header-index l.headers)) ≡ true
