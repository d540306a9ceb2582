use Rattle.std.proofs.Common.{◌≡◌, find, map, take, None}
use Rattle.httparse.specs.Spans.{header_bytes}
use Rattle.http1.specs.Fields.{is_named}
use Rattle.lg_heads.proofs.fields.first_value.Given as goal

abbrev pub invariant-fields : goal.invariant-fields
invariant-fields l = find (is_named l.name) (map (header_bytes l.bytes) (take l.header-index l.headers)) ≡ None
