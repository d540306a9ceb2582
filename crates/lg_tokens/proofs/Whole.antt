-- The text of a token is its front, what is asked for, the filter and the place.
use Rattle.std.proofs.Common.{◌≡◌, ℕ, ◌≤◌, List, ◌++◌, Option, Some, None, refl, sym, ap, subst, ◌∙◌, append_assoc}
use Rattle.std.specs.Prelude.{codes, decimal, Result, Ok, Err, IfOk, IfSome, MatchOption}
use Rattle.std.proofs.lemmas.Option.{same_Some}
use Rattle.base64.specs.GeneralPurpose.{encode_of}
use Rattle.base64.specs.Engines.{url_safe_no_pad}
use Rattle.lg_base.specs.Texts.{quoted}
use Rattle.lg_types.specs.declared.filters.ListKind.{ListKind}
use Rattle.lg_types.specs.declared.filters.After.{After}
use Rattle.lg_types.specs.declared.filters.Filter.{Filter}
use Rattle.lg_types.specs.declared.queries.Query.{Query}
use Rattle.lg_views.specs.Tokens.{kind_name, expand_text, filter_member, after_text, token_text, token}
use Rattle.lg_readings.specs.TokenReadings.{IsPageQuery, IsPlaceOf, IsTokenOf}
use Rattle.lg_tokens.specs.Parts.{dated, insertion_text, group_text, head_text, place_text, tail_text, IsShown}
use Rattle.lg_tokens.specs.Asked.{IsAsked, asked_text}
use Rattle.lg_tokens.specs.declared.asked.Asked.{Asked}

regroup : (a b c d e f g h i j k l m n : List ℕ) → a ++ (b ++ (c ++ (d ++ (e ++ (f ++ (g ++ (h ++ (i ++ (j ++ (k ++ (l ++ (m ++ n))))))))))))
    ≡ ((a ++ (b ++ c)) ++ d) ++ ((e ++ ((f ++ (g ++ (h ++ i))) ++ j)) ++ (k ++ (l ++ (m ++ n))))
regroup a b c d e f g h i j k l m n = simp append_assoc

abbrev pub asked_of : Query → Asked
asked_of q = record { pit = q.pit; expand = q.expand; span = q.span }

pub whole_text : (kind : ListKind) (q : Query) (place : After) → token_text kind q place ≡ head_text kind q.page_size ++ (asked_text (asked_of q) ++ tail_text q.filter place)
whole_text kind q place =
    regroup (codes "{\"kind\":") (quoted (kind_name kind)) (codes ",\"pageSize\":") (decimal q.page_size)
    (dated (codes ",\"pit\":") q.pit) (dated (codes ",\"startTime\":") q.span.from) (dated (codes ",\"endTime\":") q.span.to)
    (insertion_text q.span.by_insertion) (group_text q.span.group) (expand_text q.expand.volumes q.expand.effective)
    (filter_member q.filter) (codes ",\"after\":") (after_text place) (codes "}")

-- a query of a page asks for what its list has
pub page_asked : (kind : ListKind) (q : Query) (place : After) → IsPageQuery kind q place → IsAsked kind (asked_of q)
page_asked kind q place h = record { pit = h.pit; expand = h.expand; span = h.span }

pub page_shown : (kind : ListKind) (q : Query) (place : After) → IsPageQuery kind q place → IsShown kind q.filter
page_shown kind q place h = record { shown = h.filter.shown; is = h.filter.is; fits = h.filter.fits }

-- the query of what was read
abbrev pub read_of : ℕ → Asked → Filter → After → Query
read_of size asked filter place = record { filter = filter; pit = asked.pit; page_size = size; after = Some place; expand = asked.expand; span = asked.span }

pub page_of : (kind : ListKind) (size : ℕ) (asked : Asked) (filter : Filter) (place : After) → 1 ≤ size → size ≤ 100 → IsAsked kind asked → IsShown kind filter → IsPlaceOf kind place
    → IsPageQuery kind (read_of size asked filter place) place
page_of kind size asked filter place low high a s p = record {
  some = low;
  most = high;
  after = refl;
  of_list = p;
  filter = record { shown = s.shown; is = s.is; fits = s.fits };
  pit = a.pit;
  expand = a.expand;
  span = a.span;
}

-- what was read has the text that was read
pub same_text : (kind : ListKind) (q : Query) (size : ℕ) (asked : Asked) (filter : Filter) (place : After) → size ≡ q.page_size → asked ≡ asked_of q → filter_member filter ≡ filter_member q.filter
    → token_text kind (read_of size asked filter place) place ≡ token_text kind q place
same_text kind q size asked filter place s a f =
    whole_text kind (read_of size asked filter place) place
    ∙ ((λ i. head_text kind (s i) ++ (asked_text (a i) ++ (f i ++ place_text place)))
    ∙ sym (whole_text kind q place))

-- a query of the list with the same text is a query of the same token
pub same_token : (kind : ListKind) (q g : Query) (place : After) → token_text kind q place ≡ token_text kind g place → token kind q place ≡ token kind g place
unfolding token
same_token kind q g place e = ap (λ (l : List ℕ). encode_of url_safe_no_pad l) e

abbrev IsSameText : ListKind → List ℕ → Query → Option Query → Type 0
IsSameText kind text q o = (place : After) → IsPageQuery kind q place → text ≡ token_text kind q place → MatchOption o ⊥ (λ g. (g.after ≡ Some place) × (token_text kind g place ≡ text))

pub token_found : (kind : ListKind) (bytes text : List ℕ) (o : Option Query) (q : Query) (t : IsTokenOf kind bytes q) → IfSome o (λ g. (place : After) × IsPageQuery kind g place)
    → IsSameText kind text q o → text ≡ token_text kind q t.0 → MatchOption o ⊥ (IsTokenOf kind bytes)
token_found kind bytes text None q t page same e = same t.0 t.1 e
token_found kind bytes text (Some g) q t page same e =
    let s = same t.0 t.1 e in
    let at : page.0 ≡ t.0 = same_Some page.0 t.0 (sym page.1.after ∙ s.0) in
    (t.0, subst (λ (p : After). IsPageQuery kind g p) at page.1, t.2 ∙ same_token kind q g t.0 (sym e ∙ sym s.1))

pub ok_both : {X E : Type 0} (r : Result X E) (P Q R : X → Type 0) → ((x : X) → P x → Q x → R x) → IfOk r P → IfOk r Q → IfOk r R
ok_both (Ok x) P Q R f p q = f x p q
ok_both (Err e) P Q R f p q = tt
