-- The token of a page is decoded to its text.
use Rattle.std.proofs.Common.{◌≡◌, ℕ, ◌^◌, ◌<◌, ◌≤◌, List, [], ◌∷◌, ◌++◌, refl, sym, subst, arith}
use Rattle.std.specs.Prelude.{ℤ, Bool, true, false, nat_eq, codes, decimal, Option, Some, None}
use Rattle.std.specs.List.{concat}
use Rattle.std.proofs.lemmas.Bool.{cond_both}
use Rattle.std.proofs.lemmas.List.Folds.{concat-append}
use Rattle.base64.specs.Engines.{url_safe_no_pad}
use Rattle.base64.proofs.EngineFacts.{decode_of-encode_of}
use Rattle.lg_base.specs.Texts.{quoted}
use Rattle.lg_types.specs.PartTexts.{date_text, optional_text}
use Rattle.lg_types.specs.declared.filters.ListKind.{ListKind}
use Rattle.lg_types.specs.declared.filters.ListKind.TheVariants.{Ledgers, Accounts, Transactions, Logs, Volumes, Aggregate}
use Rattle.lg_types.specs.declared.filters.After.{After}
use Rattle.lg_types.specs.declared.filters.After.TheVariants.{Place, Address as AddressPlace, Pair}
use Rattle.lg_types.specs.declared.filters.Filter.{Filter, All, Compare, Has, Both', Either', Not'}
use Rattle.lg_types.specs.declared.queries.Query.{Query}
use Rattle.lg_types.specs.declared.queries.Span.{Span}
use Rattle.lg_readings.specs.TokenReadings.{IsPlaceOf, IsDate, IsPit, IsSpan, IsPageQuery}
use Rattle.lg_views.specs.Tokens.{kind_name, filter_text, filter_member, after_text, pit_text, start_text, end_text, expand_text, token_text, token}
use Rattle.lg_entry_lines.proofs.Names.{address_utf8, asset_utf8}
use Rattle.lg_tokens.specs.Laws.{Decodes}
use Rattle.lg_tokens.specs.TextParts.{by_insertion_text, group_text}
use Rattle.lg_tokens.proofs.Bytes.{AreBytes, literal, are_bytes, both, byte_first, together, quoted_bytes, utf8_bytes, decimal_bytes, date_bytes}
use Rattle.lg_tokens.proofs.FilterBytes.{filter_bytes}

kind_bytes : (kind : ListKind) → AreBytes (kind_name kind)
kind_bytes Ledgers = literal (codes "ledgers") refl
kind_bytes Accounts = literal (codes "accounts") refl
kind_bytes Transactions = literal (codes "transactions") refl
kind_bytes Logs = literal (codes "logs") refl
kind_bytes Volumes = literal (codes "volumes") refl
kind_bytes Aggregate = literal (codes "aggregate") refl

-- ---- places

place_bytes : (kind : ListKind) (n : ℕ) → IsPlaceOf kind (Place n) → AreBytes (decimal n)
place_bytes Ledgers n h = decimal_bytes n (omega arith)
place_bytes Transactions n h = decimal_bytes n (omega arith)
place_bytes Logs n h = decimal_bytes n (omega arith)
place_bytes Accounts n h = absurd h
place_bytes Volumes n h = absurd h
place_bytes Aggregate n h = absurd h

address_bytes : (kind : ListKind) (address : List ℕ) → IsPlaceOf kind (AddressPlace address) → AreBytes (quoted address)
address_bytes Accounts address h = quoted_bytes address (utf8_bytes address (address_utf8 address h))
address_bytes Ledgers address h = absurd h
address_bytes Transactions address h = absurd h
address_bytes Logs address h = absurd h
address_bytes Volumes address h = absurd h
address_bytes Aggregate address h = absurd h

pair_bytes : (kind : ListKind) (account asset : List ℕ) → IsPlaceOf kind (Pair account asset) → AreBytes (quoted (account ++ (32 ∷ asset)))
pair_bytes Volumes account asset h =
    quoted_bytes (account ++ (32 ∷ asset))
    (both account (32 ∷ asset) (utf8_bytes account (address_utf8 account h.0)) (byte_first 32 asset (omega arith) (utf8_bytes asset (asset_utf8 asset h.1))))
pair_bytes Ledgers account asset h = absurd h
pair_bytes Accounts account asset h = absurd h
pair_bytes Transactions account asset h = absurd h
pair_bytes Logs account asset h = absurd h
pair_bytes Aggregate account asset h = absurd h

after_bytes : (kind : ListKind) (place : After) → IsPlaceOf kind place → AreBytes (after_text place)
after_bytes kind (Place n) h = place_bytes kind n h
after_bytes kind (AddressPlace address) h = address_bytes kind address h
after_bytes kind (Pair account asset) h = pair_bytes kind account asset h

-- ---- dates, and the span

optional_bytes : (name : List ℕ) (date : Option ℤ) → AreBytes name → IsDate date → AreBytes (optional_text (λ d. concat (name ∷ date_text d ∷ [])) date)
optional_bytes name None h k = literal [] refl
optional_bytes name (Some d) h k = together (name ∷ date_text d ∷ []) (h, (date_bytes d k, tt))

none_is_date : (date : Option ℤ) → date ≡ None → IsDate date
none_is_date date h = subst IsDate (sym h) tt

pit_is_date : (kind : ListKind) (pit : Option ℤ) → IsPit kind pit → IsDate pit
pit_is_date Accounts pit h = h
pit_is_date Transactions pit h = h
pit_is_date Logs pit h = h
pit_is_date Ledgers pit h = none_is_date pit h
pit_is_date Volumes pit h = none_is_date pit h
pit_is_date Aggregate pit h = none_is_date pit h

record IsSpanInRange (span : Span) : Type 0 where
  from : IsDate span.from
  to : IsDate span.to
  group : span.group < 2 ^ 32

no_span : (span : Span) → span ≡ record { from = None; to = None; by_insertion = false; group = 0 } → IsSpanInRange span
no_span span h = subst IsSpanInRange (sym h) (record { from = tt; to = tt; group = omega arith })

span_in_range : (kind : ListKind) (span : Span) → IsSpan kind span → IsSpanInRange span
span_in_range Volumes span h = record { from = h.0; to = h.1; group = h.2 }
span_in_range Ledgers span h = no_span span h
span_in_range Accounts span h = no_span span h
span_in_range Transactions span h = no_span span h
span_in_range Logs span h = no_span span h
span_in_range Aggregate span h = no_span span h

insertion_bytes : (by_insertion : Bool) → AreBytes (by_insertion_text by_insertion)
insertion_bytes true = literal (codes ",\"insertionDate\":true") refl
insertion_bytes false = literal [] refl

group_bytes : (group : ℕ) → group < 2 ^ 32 → AreBytes (group_text group)
group_bytes group h =
    cond_both (nat_eq group 0) _ _ AreBytes (λ _. literal [] refl)
    (λ _. together (codes ",\"groupBy\":" ∷ decimal group ∷ []) (literal (codes ",\"groupBy\":") refl, (decimal_bytes group (omega arith), tt)))

expand_bytes : (volumes effective : Bool) → AreBytes (expand_text volumes effective)
expand_bytes true true = literal (codes ",\"expand\":[\"volumes\",\"effectiveVolumes\"]") refl
expand_bytes true false = literal (codes ",\"expand\":[\"volumes\"]") refl
expand_bytes false true = literal (codes ",\"expand\":[\"effectiveVolumes\"]") refl
expand_bytes false false = literal [] refl

-- ---- the filter

written_filter : (filter : Filter) → AreBytes (filter_text filter) → AreBytes (concat (codes ",\"filter\":" ∷ filter_text filter ∷ []))
written_filter filter h = together (codes ",\"filter\":" ∷ filter_text filter ∷ []) (literal (codes ",\"filter\":") refl, (h, tt))

filter_member_bytes : (filter : Filter) → AreBytes (filter_text filter) → AreBytes (filter_member filter)
filter_member_bytes All h = literal [] refl
filter_member_bytes (Compare op f v) h = written_filter (Compare op f v) h
filter_member_bytes (Has name) h = written_filter (Has name) h
filter_member_bytes (Both' shape filters) h = written_filter (Both' shape filters) h
filter_member_bytes (Either' shape filters) h = written_filter (Either' shape filters) h
filter_member_bytes (Not' shape filters) h = written_filter (Not' shape filters) h

-- ---- the token: its front, its span and its end

abbrev front_pieces : ListKind → Query → List (List ℕ)
front_pieces kind q = codes "{\"kind\":" ∷ quoted (kind_name kind) ∷ codes ",\"pageSize\":" ∷ decimal q.page_size ∷ optional_text pit_text q.pit ∷ []

abbrev span_pieces : Span → List (List ℕ)
span_pieces span = optional_text start_text span.from ∷ optional_text end_text span.to ∷ by_insertion_text span.by_insertion ∷ group_text span.group ∷ []

abbrev end_pieces : Query → After → List (List ℕ)
end_pieces q place = expand_text q.expand.volumes q.expand.effective ∷ filter_member q.filter ∷ codes ",\"after\":" ∷ after_text place ∷ codes "}" ∷ []

span_bytes : (span : Span) → IsSpanInRange span → AreBytes (concat (span_pieces span))
span_bytes span h =
    together (span_pieces span) (
      optional_bytes (codes ",\"startTime\":") span.from (literal (codes ",\"startTime\":") refl) h.from,
      (optional_bytes (codes ",\"endTime\":") span.to (literal (codes ",\"endTime\":") refl) h.to, (insertion_bytes span.by_insertion, (group_bytes span.group h.group, tt))),
    )

end_bytes : (kind : ListKind) (q : Query) (place : After) → IsPageQuery kind q place → AreBytes (concat (end_pieces q place))
end_bytes kind q place h =
    together (end_pieces q place) (
      expand_bytes q.expand.volumes q.expand.effective,
      (
        filter_member_bytes q.filter (filter_bytes kind q.filter 64 h.filter.shown h.filter.is h.filter.fits),
        (literal (codes ",\"after\":") refl, (after_bytes kind place h.of_list, (literal (codes "}") refl, tt))),
      ),
    )

front_bytes : (kind : ListKind) (q : Query) (place : After) → IsPageQuery kind q place → AreBytes (concat (front_pieces kind q))
front_bytes kind q place h =
    let most : q.page_size ≤ 100 = h.most in
    together (front_pieces kind q) (
      literal (codes "{\"kind\":") refl,
      (
        quoted_bytes (kind_name kind) (kind_bytes kind),
        (
          literal (codes ",\"pageSize\":") refl,
          (decimal_bytes q.page_size (omega arith), (optional_bytes (codes ",\"pit\":") q.pit (literal (codes ",\"pit\":") refl) (pit_is_date kind q.pit h.pit), tt)),
        ),
      ),
    )

text_bytes : (kind : ListKind) (q : Query) (place : After) → IsPageQuery kind q place → AreBytes (token_text kind q place)
text_bytes kind q place h =
    let rest : AreBytes (concat (span_pieces q.span ++ end_pieces q place)) =
    subst AreBytes (sym (concat-append (span_pieces q.span) (end_pieces q place)))
    (both (concat (span_pieces q.span)) (concat (end_pieces q place)) (span_bytes q.span (span_in_range kind q.span h.span)) (end_bytes kind q place h)) in
    subst AreBytes (sym (concat-append (front_pieces kind q) (span_pieces q.span ++ end_pieces q place)))
    (both (concat (front_pieces kind q)) (concat (span_pieces q.span ++ end_pieces q place)) (front_bytes kind q place h) rest)

pub tokens_decode : (kind : ListKind) (q : Query) (place : After) → IsPageQuery kind q place → Decodes kind q place
unfolding token
tokens_decode kind q place h =
    let bytes = are_bytes (token_text kind q place) (text_bytes kind q place h) in
    record { bytes = bytes; decoded = decode_of-encode_of url_safe_no_pad (token_text kind q place) refl bytes }
