-- Records that are alike in each part.
use Rattle.std.proofs.Common.{◌≡◌, ℕ, Bool, false, List, [], ◌++◌, Option, None, refl, sym, ap, subst, ◌∙◌, append_assoc}
use Rattle.std.specs.Prelude.{ℤ, codes}
use Rattle.lg_types.specs.declared.queries.Expand.{Expand}
use Rattle.lg_types.specs.declared.queries.Span.{Span}
use Rattle.lg_views.specs.Tokens.{expand_text}
use Rattle.lg_tokens.specs.Parts.{dated, insertion_text, group_text}
use Rattle.lg_tokens.specs.Asked.{no_expand, no_span, span_text, asked_text}
use Rattle.lg_tokens.specs.declared.asked.Asked.{Asked}

pub same_expand : (volumes effective : Bool) → volumes ≡ false → effective ≡ false → no_expand ≡ record { volumes = volumes; effective = effective }
same_expand volumes effective a b = λ i. record { volumes = (sym a) i; effective = (sym b) i }

pub same_span : (s : Span) (from to : Option ℤ) (by_insertion : Bool) (group : ℕ) → from ≡ s.from → to ≡ s.to → by_insertion ≡ s.by_insertion → group ≡ s.group
    → record { from = from; to = to; by_insertion = by_insertion; group = group } ≡ s
same_span s from to by_insertion group a b c d = λ i. record { from = a i; to = b i; by_insertion = c i; group = d i }

pub span_regrouped : (s : Span) (more : List ℕ) → span_text s ++ more
    ≡ dated (codes ",\"startTime\":") s.from ++ (dated (codes ",\"endTime\":") s.to ++ (insertion_text s.by_insertion ++ (group_text s.group ++ more)))
span_regrouped s more = regrouped (dated (codes ",\"startTime\":") s.from) (dated (codes ",\"endTime\":") s.to) (insertion_text s.by_insertion) (group_text s.group) more
  where
    regrouped : (a b c d e : List ℕ) → (a ++ (b ++ (c ++ d))) ++ e ≡ a ++ (b ++ (c ++ (d ++ e)))
    regrouped a b c d e = simp append_assoc

-- nothing is asked for
pub nothing_asked : (a : Asked) → a.pit ≡ None → a.expand ≡ no_expand → a.span ≡ no_span → record { pit = None; expand = no_expand; span = no_span } ≡ a
nothing_asked a p e s = λ i. record { pit = (sym p) i; expand = (sym e) i; span = (sym s) i }

pub nothing_text : (a : Asked) (more : List ℕ) → a.pit ≡ None → a.expand ≡ no_expand → a.span ≡ no_span → asked_text a ++ more ≡ more
nothing_text a more p e s = subst (λ (x : Asked). asked_text x ++ more ≡ more) (nothing_asked a p e s) refl

-- a date and volumes alone
pub looked_at_asked : (a : Asked) → a.span ≡ no_span → record { pit = a.pit; expand = a.expand; span = no_span } ≡ a
looked_at_asked a s = λ i. record { pit = a.pit; expand = a.expand; span = (sym s) i }

pub looked_at_text : (a : Asked) (more : List ℕ) → a.span ≡ no_span → asked_text a ++ more ≡ dated (codes ",\"pit\":") a.pit ++ (expand_text a.expand.volumes a.expand.effective ++ more)
looked_at_text a more s =
    ap (λ (x : Span). (dated (codes ",\"pit\":") a.pit ++ (span_text x ++ expand_text a.expand.volumes a.expand.effective)) ++ more) s
    ∙ append_assoc (dated (codes ",\"pit\":") a.pit) (expand_text a.expand.volumes a.expand.effective) more

-- a date alone
pub dated_asked : (a : Asked) → a.expand ≡ no_expand → a.span ≡ no_span → record { pit = a.pit; expand = no_expand; span = no_span } ≡ a
dated_asked a e s = λ i. record { pit = a.pit; expand = (sym e) i; span = (sym s) i }

pub dated_text : (a : Asked) (more : List ℕ) → a.expand ≡ no_expand → a.span ≡ no_span → asked_text a ++ more ≡ dated (codes ",\"pit\":") a.pit ++ more
dated_text a more e s = looked_at_text a more s ∙ ap (λ (x : Expand). dated (codes ",\"pit\":") a.pit ++ (expand_text x.volumes x.effective ++ more)) e

-- a span alone
pub spanned_asked : (a : Asked) → a.pit ≡ None → a.expand ≡ no_expand → record { pit = None; expand = no_expand; span = a.span } ≡ a
spanned_asked a p e = λ i. record { pit = (sym p) i; expand = (sym e) i; span = a.span }

pub spanned_text : (a : Asked) (more : List ℕ) → a.pit ≡ None → a.expand ≡ no_expand → asked_text a ++ more ≡ span_text a.span ++ more
spanned_text a more p e =
    ap (λ (x : Option ℤ). (dated (codes ",\"pit\":") x ++ (span_text a.span ++ expand_text a.expand.volumes a.expand.effective)) ++ more) p
    ∙ (ap (λ (x : Expand). (span_text a.span ++ expand_text x.volumes x.effective) ++ more) e ∙ append_assoc (span_text a.span) [] more)
