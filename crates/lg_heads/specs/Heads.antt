-- The parts of a whole head, and verdicts.
use Rattle.std.specs.Prelude.{◌≡◌, ℕ, ◌≤◌, List, length, take, drop, map, codes, IfSome}
use Rattle.std.specs.Option.{option_map}
use Rattle.httparse.specs.Grammar.{RequestHead, print_request, HasNoRequest, MayBecomeRequest}
use Rattle.httparse.specs.Spans.{IsWithin, span_bytes, name_and_value}
use Rattle.http1.specs.Fields.{Header}
use Rattle.lg_heads.specs.Fields.{first_value, framing_of, closes_after}
use Rattle.lg_heads.specs.Verdicts.{IsWhole, IsBad, IsLong}
use Rattle.lg_heads.specs.declared.head.Head.{Head}
use Rattle.lg_heads.specs.declared.verdict.Verdict.{Verdict}
use Rattle.lg_heads.specs.declared.verdict.Verdict.TheVariants.{Whole, Bad, Long, Open}

-- the names and values of a head's fields, each value without the blanks around it
abbrev pub fields_of : RequestHead → List Header
fields_of h = map name_and_value h.fields

-- the first bytes are this head, and these are its parts
pub record IsHeadAt (bytes : List ℕ) (head : Head) (h : RequestHead) : Type 0 where
  pub whole : IsWhole bytes h (drop head.len bytes)
  pub len : head.len ≡ length (print_request h)
  pub len_fits : head.len ≤ length bytes
  pub method_fits : IsWithin head.len head.method
  pub method : span_bytes bytes head.method ≡ h.method
  pub target_fits : IsWithin head.len head.target
  pub target : span_bytes bytes head.target ≡ h.target
  pub key_fits : IfSome head.key (IsWithin head.len)
  pub key : option_map (span_bytes bytes) head.key ≡ first_value (codes "idempotency-key") (fields_of h)
  pub framing : head.framing ≡ framing_of (fields_of h)
  pub closes : head.closes ≡ closes_after h.minor (fields_of h)

-- what is true of the bytes, whose first ones were judged
abbrev pub IsVerdict : List ℕ → ℕ → Verdict → Type 0
IsVerdict bytes judged (Whole head) = (h : RequestHead) × IsHeadAt bytes head h
IsVerdict bytes judged Bad = IsBad bytes
IsVerdict bytes judged Long = IsLong bytes
IsVerdict bytes judged Open = HasNoRequest (take judged bytes) × MayBecomeRequest (take judged bytes)
