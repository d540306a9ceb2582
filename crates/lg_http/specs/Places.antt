-- Where the parts of a message stand, and what the next message of a connection is.
use Rattle.std.specs.Prelude.{◌≡◌, ℕ, ◌<◌, ◌≤◌, ◌⊎◌, List, [], length, drop, Option, IfSome}
use Rattle.std.specs.Option.{option_map}
use Rattle.httparse.specs.Spans.{IsWithin, span_bytes}
use Rattle.lg_base.specs.Told.{IsAtEnd}
use Rattle.lg_heads.specs.Verdicts.{IsOpen, WantsMore}
use Rattle.lg_http.specs.Messages.{Message, IsMessage, IsRefused, EndsInside, LacksBody}
use Rattle.lg_http.specs.declared.message_spans.MessageSpans.{MessageSpans}
use Rattle.lg_http.specs.declared.next.Next.{Next}
use Rattle.lg_http.specs.declared.next.Next.TheVariants.{Message as Whole, Refused, Cut, Closed}

-- the first bytes are this message, and these are its parts
pub record IsMessageAt (limit : List ℕ → List ℕ → ℕ) (bytes : List ℕ) (spans : MessageSpans) (message : Message) : Type 0 where
  pub is : IsMessage limit bytes message (drop spans.len bytes)
  pub some : 0 < spans.len
  pub len_fits : spans.len ≤ length bytes
  pub method_fits : IsWithin spans.len spans.method
  pub method : span_bytes bytes spans.method ≡ message.request.method
  pub target_fits : IsWithin spans.len spans.target
  pub target : span_bytes bytes spans.target ≡ message.request.target
  pub key_fits : IfSome spans.key (IsWithin spans.len)
  pub key : option_map (span_bytes bytes) spans.key ≡ message.request.key
  pub body_fits : IsWithin spans.len spans.body
  pub body : span_bytes bytes spans.body ≡ message.request.body
  pub closes : spans.closes ≡ message.closes

-- what the unread bytes and what the source has left say of each answer
abbrev pub IsNext : (List ℕ → List ℕ → ℕ) → Option (List ℕ) → List ℕ → Next → Type 0
IsNext limit left bytes (Whole spans) = (message : Message) × IsMessageAt limit bytes spans message
IsNext limit left bytes (Refused why) = IsRefused limit bytes why
IsNext limit left bytes Cut = EndsInside limit bytes × IsAtEnd left
IsNext limit left bytes Closed = (bytes ≡ []) × IsAtEnd left

-- the bytes are the front of a message that may still become whole, or there are none
abbrev pub AwaitsMessage : (List ℕ → List ℕ → ℕ) → List ℕ → Type 0
AwaitsMessage limit bytes = IsOpen bytes ⊎ LacksBody limit bytes

-- more bytes are wanted: there is no whole message yet, and no limit is passed
abbrev pub WantsMessage : (List ℕ → List ℕ → ℕ) → List ℕ → Type 0
WantsMessage limit bytes = WantsMore bytes ⊎ LacksBody limit bytes
