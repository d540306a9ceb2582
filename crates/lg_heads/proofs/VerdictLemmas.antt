-- A verdict on a prefix is one on all the bytes.
use Rattle.std.proofs.Common.{◌≡◌, ℕ, ◌+◌, ◌-◌, ◌<◌, ◌≤◌, List, ◌++◌, length, get_or, take, drop, Option, Some, None, refl, sym, ap, ◌∙◌, subst, arith, length-append}
use Rattle.std.specs.Prelude.{IfSome}
use Rattle.std.specs.Option.{option_map}
use Rattle.std.proofs.lemmas.List.{take_more, take-append-drop, drop_more, take-append-le, drop-append-le, length-drop}
use Rattle.httparse.specs.declared.spans.Span.{Span}
use Rattle.httparse.specs.Grammar.{RequestHead, ReadsRequest, HasNoRequest, NeverHasRequest, MayBecomeRequest}
use Rattle.httparse.specs.Spans.{IsWithin, span_bytes}
use Rattle.httparse.proofs.GrammarLemmas.{ReadsRequest-append}
use Rattle.lg_heads.specs.declared.head.Head.{Head}
use Rattle.lg_heads.specs.Lines.{IsWithinLimits, PassesLimits}
use Rattle.lg_heads.specs.Verdicts.{IsBad, IsLong}
use Rattle.lg_heads.specs.Heads.{IsHeadAt}

span_bytes-append : (bytes more : List ℕ) (s : Span) (n : ℕ) → IsWithin n s → n ≤ length bytes → span_bytes (bytes ++ more) s ≡ span_bytes bytes s
span_bytes-append bytes more s n fits inside =
    let start : s.start ≤ length bytes = omega (arith, fits.0, fits.1) in
    let rest : s.end - s.start ≤ length (drop s.start bytes) = omega (arith, fits.0, fits.1, length-drop s.start bytes) in
    ap (λ (l : List ℕ). take (s.end - s.start) l) (drop-append-le s.start bytes more start)
    ∙ take-append-le (s.end - s.start) (drop s.start bytes) more rest

key-append : (bytes more : List ℕ) (key : Option Span) (n : ℕ) → IfSome key (IsWithin n) → n ≤ length bytes
    → option_map (span_bytes (bytes ++ more)) key ≡ option_map (span_bytes bytes) key
key-append bytes more None n fits inside = refl
key-append bytes more (Some s) n fits inside = ap (λ (l : List ℕ). Some l) (span_bytes-append bytes more s n fits inside)

-- a head stays where it is when more bytes come
pub IsHeadAt-append : (bytes more : List ℕ) (head : Head) (h : RequestHead) → IsHeadAt bytes head h → IsHeadAt (bytes ++ more) head h
IsHeadAt-append bytes more head h is = record {
  whole = record {
    reads = subst (ReadsRequest (bytes ++ more) h) (sym (drop-append-le head.len bytes more is.len_fits)) (ReadsRequest-append bytes h (drop head.len bytes) more is.whole.reads);
    short = is.whole.short;
    few = is.whole.few;
  };
  len = is.len;
  len_fits = omega (arith, is.len_fits, length-append bytes more);
  method_fits = is.method_fits;
  method = span_bytes-append bytes more head.method head.len is.method_fits is.len_fits ∙ is.method;
  target_fits = is.target_fits;
  target = span_bytes-append bytes more head.target head.len is.target_fits is.len_fits ∙ is.target;
  key_fits = is.key_fits;
  key = key-append bytes more head.key head.len is.key_fits is.len_fits ∙ is.key;
  framing = is.framing;
  closes = is.closes;
}

-- a head of a prefix is one of all the bytes
pub head_of_prefix : (bytes : List ℕ) (at : ℕ) (head : Head) (h : RequestHead) → IsHeadAt (take at bytes) head h → IsHeadAt bytes head h
head_of_prefix bytes at head h is =
    subst (λ (l : List ℕ). IsHeadAt l head h) (take-append-drop at bytes) (IsHeadAt-append (take at bytes) (drop at bytes) head h is)

pub bad_of_prefix : (bytes : List ℕ) (at : ℕ) → IsWithinLimits (take at bytes) → NeverHasRequest (take at bytes) → IsBad bytes
bad_of_prefix bytes at within never =
    record { front = take at bytes; rest = drop at bytes; bytes_are = sym (take-append-drop at bytes); within = within; never = never }

pub long_of_prefix : (bytes : List ℕ) (at : ℕ) → at < length bytes → IsWithinLimits (take at bytes) → PassesLimits (take (at + 1) bytes)
    → HasNoRequest (take at bytes) → MayBecomeRequest (take at bytes) → IsLong bytes
long_of_prefix bytes at more within past none may =
    record {
      front = take at bytes;
      byte = get_or bytes at 0;
      rest = drop (at + 1) bytes;
      bytes_are = sym (take-append-drop at bytes) ∙ ap (λ (l : List ℕ). take at bytes ++ l) (drop_more bytes at 0 more);
      within = within;
      past = subst PassesLimits (take_more bytes at 0 more) past;
      none = none;
      may = may;
    }
