-- The body behind a whole head.
use Rattle.std.specs.Prelude.{◌≡◌, ℕ, ◌+◌, ◌<◌, ◌≤◌, true, List, length, Option, Some, None}
use Rattle.httparse.specs.Grammar.{RequestHead}
use Rattle.lg_heads.specs.Fields.{stated_length, is_coded}
use Rattle.lg_heads.specs.Heads.{fields_of}
use Rattle.lg_heads.specs.declared.head.Head.{Head}
use Rattle.lg_base.specs.Told.{IsAtEnd}
use Rattle.lg_http.specs.Messages.{HasLength}
use Rattle.lg_http.specs.declared.body_size.BodySize.{BodySize}
use Rattle.lg_http.specs.declared.body_size.BodySize.TheVariants.{Bytes, Refused}
use Rattle.lg_http.specs.declared.message_spans.MessageSpans.{MessageSpans}
use Rattle.lg_http.specs.declared.next.Next.{Next}
use Rattle.lg_http.specs.declared.next.Next.TheVariants.{Message, Cut, Closed}
use Rattle.lg_http.specs.declared.next.Next.TheVariants as next
use Rattle.lg_http.specs.declared.refusal.MessageRefusal.TheVariants.{BadHead, LongHead, CodedBody, LongBody}

-- how many bytes the body behind the head has, or why it is refused
abbrev pub IsBodySize : (List ℕ → List ℕ → ℕ) → RequestHead → BodySize → Type 0
IsBodySize limit head (Bytes size) = HasLength head size × (size ≤ limit head.method head.target)
IsBodySize limit head (Refused BadHead) = stated_length (fields_of head) ≡ None
IsBodySize limit head (Refused LongHead) = ⊥
IsBodySize limit head (Refused CodedBody) = (size : ℕ) × (stated_length (fields_of head) ≡ Some size) × (is_coded (fields_of head) ≡ true)
IsBodySize limit head (Refused LongBody) = (size : ℕ) × HasLength head size × (limit head.method head.target < size)

-- the places of a message with this head and a body of so many bytes
abbrev pub spans_of : Head → ℕ → MessageSpans
spans_of head size = record {
  method = head.method;
  target = head.target;
  key = head.key;
  body = record { start = head.len; end = head.len + size };
  closes = head.closes;
  len = head.len + size;
}

-- what was taken behind a head with a body of so many bytes: a whole message, or less, as the source ended before
abbrev pub IsTaken : Option (List ℕ) → List ℕ → Head → ℕ → Next → Type 0
IsTaken left bytes head size (Message spans) = (spans ≡ spans_of head size) × (head.len + size ≤ length bytes)
IsTaken left bytes head size (next.Refused why) = ⊥
IsTaken left bytes head size Cut = (length bytes < head.len + size) × IsAtEnd left
IsTaken left bytes head size Closed = ⊥
