-- A text between its quotes, one byte further.
use Rattle.std.proofs.Common.{◌≡◌, ℕ, ◌+◌, ◌-◌, ◌*◌, ◌%◌, ◌<◌, ◌≤◌, true, false, cond, nat_lt, nat_le, ◌==◌, List, [], ◌∷◌, ◌++◌, Option, Some, None, refl, sym, ap, ◌∙◌, subst, inl, inr, arith, append_assoc, append-nil, eqb-true, ltb-true, ltb-false, mod-eq_of_lt}
use Rattle.std.proofs.lemmas.Bool.{cond_both, eqb-false, and_parts, leb-true, and_cases, leb-false}
use Rattle.std.proofs.lemmas.Str.{encode_ascii}
use Rattle.std.specs.Char.{encode_utf8, digit_value}
use lib.Utf8.{encodes, low_scalar}
use Rattle.lg_containers.specs.Utf8.{utf8_step, lead_state}
use Rattle.lg_containers.specs.Utf8Laws.{LeadGives, lead_begins, StepGives, step_begins}
use Rattle.lg_containers.specs.TextLaws.{step_at_boundary, AllLive, step_live}
use Rattle.lg_containers.specs.declared.utf8.Utf8State.{Utf8State}
use Rattle.lg_containers.specs.declared.utf8.Utf8State.TheVariants.{Boundary, Inside}
use Rattle.lg_json.specs.Grammar.{IsHexDigit, hex_number, IsUnit, IsHigh, IsLow, pair, IsShort, IsChar, AreChars}
use Rattle.lg_json.specs.Grammar.IsShort.{quote, backslash, slash, backspace, form_feed, line_feed, carriage_return, tab}
use Rattle.lg_json.specs.Grammar.IsChar.{unescaped, short, unit, surrogates}
use Rattle.lg_json.specs.Reading.{TextState, hex_more, joined, character_step, escape_step, unit_step, low_step, text_step, short_escape, closes, is_high}
use Rattle.lg_json.specs.declared.state.TextMode.{TextMode}
use Rattle.lg_json.specs.declared.state.TextMode.TheVariants.{Character, Escape, Unit as UnitMode, AfterHigh, AfterHighEscape, Low}
use Rattle.lg_json.specs.Texts.{Spelled, IsNoLow, UnitDigits, LowDigits, TextStands}
use Rattle.lg_json.proofs.Lists.{snoc, snoc2}

-- one more character
chars_push : (cs : List ℕ) (c : ℕ) (inner bytes : List ℕ) → AreChars cs inner → IsChar c bytes → AreChars (cs ++ c ∷ []) (inner ++ bytes)
chars_push [] c inner bytes h p = (bytes, [], p, refl, rw h (sym (append-nil bytes)))
chars_push (d ∷ ds) c inner bytes h p = (h.0, h.1 ++ bytes, h.2, chars_push ds c h.1 bytes h.3 p, ap (λ (l : List ℕ). l ++ bytes) h.4 ∙ append_assoc h.0 h.1 bytes)

encodes-snoc : (cs : List ℕ) (c : ℕ) → encodes (cs ++ c ∷ []) ≡ encodes cs ++ encode_utf8 c
encodes-snoc [] c = append-nil (encode_utf8 c)
encodes-snoc (d ∷ ds) c = ap (λ (l : List ℕ). encode_utf8 d ++ l) (encodes-snoc ds c) ∙ sym (append_assoc (encode_utf8 d) (encodes ds) (encode_utf8 c))

pub spelled_push : (t inner bytes : List ℕ) (c : ℕ) → Spelled t inner → IsChar c bytes → Spelled (t ++ encode_utf8 c) (inner ++ bytes)
spelled_push t inner bytes c s p = record {
  chars = s.chars ++ c ∷ [];
  spelled = chars_push s.chars c inner bytes s.spelled p;
  value = ap (λ (l : List ℕ). l ++ encode_utf8 c) s.value ∙ sym (encodes-snoc s.chars c);
}

pub spelled_none : Spelled [] []
spelled_none = record { chars = []; spelled = refl; value = refl }

abbrev pub TextGoesOn : List ℕ → Option TextState → Type 0
TextGoesOn inner None = Unit {0}
TextGoesOn inner (Some s) = TextStands s.0 s.1 inner

-- a byte that stands for itself, where a character begins
plain_goes_on : (t inner : List ℕ) (b : ℕ) (o : Option Utf8State) → Spelled t inner → 32 ≤ b → (b ≡ 34 → ⊥) → (b ≡ 92 → ⊥) → LeadGives b o → AllLive o → TextGoesOn (inner ++ b ∷ []) (character_step t b o)
plain_goes_on t inner b None s low ne_quote ne_backslash g live = tt
plain_goes_on t inner b (Some Boundary) s low ne_quote ne_backslash g live =
    subst (λ l. Spelled (t ++ l) (inner ++ b ∷ [])) (encode_ascii b g)
    (spelled_push t inner (b ∷ []) b s (unescaped b (b ∷ []) (low_scalar b (omega arith)) low ne_quote ne_backslash (sym (encode_ascii b g))))
plain_goes_on t inner b (Some (Inside lo hi left)) s low ne_quote ne_backslash g live = (t, inner, b ∷ [], s, g, live, refl, refl)

-- and inside a character
part_goes_on : (t inner text done part : List ℕ) (b : ℕ) (o : Option Utf8State) → Spelled text done → t ≡ text ++ part → inner ≡ done ++ part → StepGives (part ++ b ∷ []) o → AllLive o → TextGoesOn (inner ++ b ∷ []) (character_step t b o)
part_goes_on t inner text done part b None s et ei g live = tt
part_goes_on t inner text done part b (Some Boundary) s et ei g live =
    let r = g [] refl in
    let c = r.0 in
    let large : 128 ≤ c = r.2 in
    let e : part ++ b ∷ [] ≡ encode_utf8 c = sym (append-nil _) ∙ r.3 in
    let p = spelled_push text done (part ++ b ∷ []) c s (unescaped c (part ++ b ∷ []) r.1 (omega arith) (omega arith) (omega arith) e) in
    subst (λ l. Spelled l (inner ++ b ∷ [])) (ap (λ (l : List ℕ). text ++ l) (sym e) ∙ sym (snoc t text part b et))
    (subst (λ l. Spelled (text ++ encode_utf8 c) l) (sym (snoc inner done part b ei)) p)
part_goes_on t inner text done part b (Some (Inside lo hi left)) s et ei g live = (text, done, part ++ b ∷ [], s, g, live, snoc t text part b et, snoc inner done part b ei)

-- a backslash and a byte
escape_goes_on : (t inner done : List ℕ) (b : ℕ) → Spelled t done → inner ≡ done ++ 92 ∷ [] → TextGoesOn (inner ++ b ∷ []) (escape_step t (short_escape b))
escape_goes_on t inner done b s e =
    cond_both (b == 34) _ _ Goes (λ f. goes 34 34 quote (omega arith) f)
    (λ _. cond_both (b == 92) _ _ Goes (λ f. goes 92 92 backslash (omega arith) f)
    (λ _. cond_both (b == 47) _ _ Goes (λ f. goes 47 47 slash (omega arith) f)
    (λ _. cond_both (b == 98) _ _ Goes (λ f. goes 98 8 backspace (omega arith) f)
    (λ _. cond_both (b == 102) _ _ Goes (λ f. goes 102 12 form_feed (omega arith) f)
    (λ _. cond_both (b == 110) _ _ Goes (λ f. goes 110 10 line_feed (omega arith) f)
    (λ _. cond_both (b == 114) _ _ Goes (λ f. goes 114 13 carriage_return (omega arith) f)
    (λ _. cond_both (b == 116) _ _ Goes (λ f. goes 116 9 tab (omega arith) f) (λ _. tt))))))))
  where
    Goes : Option ℕ → Type 0
    Goes o = TextGoesOn (inner ++ b ∷ []) (escape_step t o)

    goes : (k c : ℕ) → IsShort k c → c < 128 → (b == k) ≡ true → TextGoesOn (inner ++ b ∷ []) (escape_step t (Some c))
    goes k c h small f =
        let same : b ≡ k = eqb-true b k f in
        let p = spelled_push t done (92 ∷ k ∷ []) c s (short c k (92 ∷ k ∷ []) h refl) in
        subst (λ l. Spelled (t ++ l) (inner ++ b ∷ [])) (encode_ascii c small)
        (subst (λ l. Spelled (t ++ encode_utf8 c) l) (ap (λ j. done ++ 92 ∷ j ∷ []) (sym same) ∙ sym (snoc inner done (92 ∷ []) b e)) p)

hex_value : (u d : ℕ) → u < 4096 → d < 16 → hex_more u d ≡ u * 16 + d
hex_value u d hu hd = mod-eq_of_lt (omega arith)

-- the escape of a unit that is whole
char_of_unit : (u : ℕ) (bytes : List ℕ) → u < 65536 → IsUnit u bytes → (IsHigh u → ⊥) → (IsLow u → ⊥) → IsChar u bytes
char_of_unit u bytes small h high low = unit u bytes h high low

abbrev GoesOn : List ℕ → Option TextState → Type 0
GoesOn inner o = TextGoesOn inner o

unit_ends : (t inner done : List ℕ) (a b c d u : ℕ) → Spelled t done → IsHexDigit a → IsHexDigit b → IsHexDigit c → IsHexDigit d → u ≡ hex_number a b c d → IsNoLow (digit_value a * 16 + digit_value b) → inner ≡ done ++ (92 ∷ 117 ∷ a ∷ b ∷ c ∷ d ∷ [])
    → TextGoesOn inner (cond (is_high u) (Some (t, AfterHigh u)) (Some (t ++ encode_utf8 u, Character Boundary)))
unit_ends t inner done a b c d u s ha hb hc hd value no_low e =
    let whole : IsUnit u (92 ∷ 117 ∷ a ∷ b ∷ c ∷ d ∷ []) = record { a = a; b = b; c = c; d = d; a_is_digit = ha; b_is_digit = hb; c_is_digit = hc; d_is_digit = hd; value = value; parts = refl } in
    cond_both (is_high u) _ _ (λ o. TextGoesOn inner o)
    (λ f. let p = and_parts (nat_le 55296 u) (nat_le u 56319) f in (done, 92 ∷ 117 ∷ a ∷ b ∷ c ∷ d ∷ [], s, (leb-true _ _ p.0, leb-true _ _ p.1), whole, e))
    (λ f. subst (λ l. Spelled (t ++ encode_utf8 u) l) (sym e)
    (spelled_push t done (92 ∷ 117 ∷ a ∷ b ∷ c ∷ d ∷ []) u s
    (unit u (92 ∷ 117 ∷ a ∷ b ∷ c ∷ d ∷ []) whole
    (λ h. let h0 = h.0 in let h1 = h.1 in elim (and_cases (nat_le 55296 u) (nat_le u 56319) f) [ inl g ↦ (let k : u < 55296 = leb-false 55296 u g in omega arith) | inr g ↦ (let k : 56319 < u = leb-false u 56319 g in omega arith) ])
    (λ l. let l0 = l.0 in let l1 = l.1 in elim no_low [ inl g ↦ omega arith | inr g ↦ omega arith ]))))

unit_goes_on : (t inner done digits : List ℕ) (n u b : ℕ) → Spelled t done → UnitDigits n u digits → inner ≡ done ++ 92 ∷ 117 ∷ digits → digit_value b < 16 → TextGoesOn (inner ++ b ∷ []) (unit_step t n (hex_more u (digit_value b)))
unit_goes_on t inner done [] n u b s h e hb =
    let n4 : n ≡ 4 = h.0 in
    let u0 : u ≡ 0 = h.1 in
    let v : hex_more u (digit_value b) ≡ digit_value b = hex_value u (digit_value b) (omega arith) hb ∙ (omega arith) in
    rw (n4, v) (done, b ∷ [], s, (refl, hb, refl), snoc inner done (92 ∷ 117 ∷ []) b e)
unit_goes_on t inner done (a ∷ []) n u b s h e hb =
    let n3 : n ≡ 3 = h.0 in
    let ha : digit_value a < 16 = h.1 in
    let ua : u ≡ digit_value a = h.2 in
    let v : hex_more u (digit_value b) ≡ digit_value a * 16 + digit_value b = hex_value u (digit_value b) (omega arith) hb ∙ (omega arith) in
    let w = digit_value a * 16 + digit_value b in
    let goes : IsNoLow w → TextGoesOn (inner ++ b ∷ []) (Some (t, UnitMode 2 w)) = λ no_low. (done, a ∷ b ∷ [], s, (refl, ha, hb, refl, no_low), snoc inner done (92 ∷ 117 ∷ a ∷ []) b e) in
    rw (n3, v)
    (cond_both (nat_lt w 220) _ _ (λ o. TextGoesOn (inner ++ b ∷ []) o) (λ f. goes (inl (ltb-true w 220 f)))
    (λ _. cond_both (nat_lt 223 w) _ _ (λ o. TextGoesOn (inner ++ b ∷ []) o) (λ f. goes (inr (ltb-true 223 w f))) (λ _. tt)))
unit_goes_on t inner done (a ∷ c ∷ []) n u b s h e hb =
    let n2 : n ≡ 2 = h.0 in
    let ha : digit_value a < 16 = h.1 in
    let hc : digit_value c < 16 = h.2 in
    let uc : u ≡ digit_value a * 16 + digit_value c = h.3 in
    let v : hex_more u (digit_value b) ≡ (digit_value a * 16 + digit_value c) * 16 + digit_value b = hex_value u (digit_value b) (omega arith) hb ∙ ap (λ k. k * 16 + digit_value b) uc in
    rw (n2, v) (done, a ∷ c ∷ b ∷ [], s, (refl, ha, hc, hb, refl, subst IsNoLow uc h.4), snoc inner done (92 ∷ 117 ∷ a ∷ c ∷ []) b e)
unit_goes_on t inner done (a ∷ c ∷ d ∷ []) n u b s h e hb =
    let n1 : n ≡ 1 = h.0 in
    let ha : digit_value a < 16 = h.1 in
    let hc : digit_value c < 16 = h.2 in
    let hd : digit_value d < 16 = h.3 in
    let ud : u ≡ (digit_value a * 16 + digit_value c) * 16 + digit_value d = h.4 in
    let v : hex_more u (digit_value b) ≡ hex_number a c d b = hex_value u (digit_value b) (omega arith) hb ∙ ap (λ k. k * 16 + digit_value b) ud in
    rw (n1, v) (unit_ends t (inner ++ b ∷ []) done a c d b (hex_number a c d b) s ha hc hd hb refl h.5 (snoc inner done (92 ∷ 117 ∷ a ∷ c ∷ d ∷ []) b e))
unit_goes_on t inner done (a ∷ c ∷ d ∷ f ∷ fs) n u b s h e hb = absurd h

-- a pair of surrogates
pub joined_is : (h l : ℕ) → IsHigh h → IsLow l → joined h l ≡ pair h l
joined_is h l hh hl =
    let h0 = hh.0 in
    let h1 = hh.1 in
    let l0 = hl.0 in
    let l1 = hl.1 in
    let a : h % 1024 ≡ h - 55296 = omega arith in
    let b : l % 1024 ≡ l - 56320 = omega arith in
    rw (a, b) (omega arith)

low_goes_on : (t inner done front digits : List ℕ) (hi n u b : ℕ) → Spelled t done → IsHigh hi → IsUnit hi front → LowDigits n u digits → inner ≡ done ++ (front ++ 92 ∷ 117 ∷ digits) → digit_value b < 16 → TextGoesOn (inner ++ b ∷ []) (low_step t hi n (hex_more u (digit_value b)))
low_goes_on t inner done front [] hi n u b s high hu h e hb =
    let n4 : n ≡ 4 = h.0 in
    let u0 : u ≡ 0 = h.1 in
    let v : hex_more u (digit_value b) ≡ digit_value b = hex_value u (digit_value b) (omega arith) hb ∙ (omega arith) in
    rw (n4, v)
    (cond_both (digit_value b == 13) _ _ (λ o. TextGoesOn (inner ++ b ∷ []) o)
    (λ f. let same : digit_value b ≡ 13 = eqb-true _ _ f in (done, front, b ∷ [], s, high, hu, (refl, same, same), snoc2 inner done front (92 ∷ 117 ∷ []) b e))
    (λ _. tt))
low_goes_on t inner done front (a ∷ []) hi n u b s high hu h e hb =
    let n3 : n ≡ 3 = h.0 in
    let ha : digit_value a ≡ 13 = h.1 in
    let ua : u ≡ 13 = h.2 in
    let v : hex_more u (digit_value b) ≡ 208 + digit_value b = hex_value u (digit_value b) (omega arith) hb ∙ (omega arith) in
    let w = 208 + digit_value b in
    rw (n3, v)
    (cond_both (nat_lt w 220) _ _ (λ o. TextGoesOn (inner ++ b ∷ []) o) (λ _. tt)
    (λ f. let above : 220 ≤ w = ltb-false w 220 f in let c12 : 12 ≤ digit_value b = omega arith in (done, front, a ∷ b ∷ [], s, high, hu, (refl, ha, hb, c12, refl), snoc2 inner done front (92 ∷ 117 ∷ a ∷ []) b e)))
low_goes_on t inner done front (a ∷ c ∷ []) hi n u b s high hu h e hb =
    let n2 : n ≡ 2 = h.0 in
    let ha : digit_value a ≡ 13 = h.1 in
    let hc : digit_value c < 16 = h.2 in
    let c12 : 12 ≤ digit_value c = h.3 in
    let uc : u ≡ 208 + digit_value c = h.4 in
    let v : hex_more u (digit_value b) ≡ (208 + digit_value c) * 16 + digit_value b = hex_value u (digit_value b) (omega arith) hb ∙ ap (λ k. k * 16 + digit_value b) uc in
    rw (n2, v) (done, front, a ∷ c ∷ b ∷ [], s, high, hu, (refl, ha, hc, c12, hb, refl), snoc2 inner done front (92 ∷ 117 ∷ a ∷ c ∷ []) b e)
low_goes_on t inner done front (a ∷ c ∷ d ∷ []) hi n u b s high hu h e hb =
    let n1 : n ≡ 1 = h.0 in
    let ha : digit_value a ≡ 13 = h.1 in
    let hc : digit_value c < 16 = h.2 in
    let c12 : 12 ≤ digit_value c = h.3 in
    let hd : digit_value d < 16 = h.4 in
    let ud : u ≡ (208 + digit_value c) * 16 + digit_value d = h.5 in
    let value : hex_number a c d b ≡ ((208 + digit_value c) * 16 + digit_value d) * 16 + digit_value b = omega arith in
    let v : hex_more u (digit_value b) ≡ hex_number a c d b = hex_value u (digit_value b) (omega arith) hb ∙ (omega arith) in
    let low : IsLow (hex_number a c d b) = (omega arith, omega arith) in
    let back : List ℕ = 92 ∷ 117 ∷ a ∷ c ∷ d ∷ b ∷ [] in
    let whole : IsUnit (hex_number a c d b) back = record { a = a; b = c; c = d; d = b; a_is_digit = omega arith; b_is_digit = hc; c_is_digit = hd; d_is_digit = hb; value = refl; parts = refl } in
    let p = spelled_push t done (front ++ back) (pair hi (hex_number a c d b)) s
    (surrogates (pair hi (hex_number a c d b)) hi (hex_number a c d b) front back (front ++ back) high low hu whole refl refl) in
    let q : Spelled (t ++ encode_utf8 (joined hi (hex_number a c d b))) (done ++ (front ++ back)) = subst (λ k. Spelled (t ++ encode_utf8 k) (done ++ (front ++ back))) (sym (joined_is hi (hex_number a c d b) high low)) p in
    rw (n1, v) (subst (λ l. Spelled (t ++ encode_utf8 (joined hi (hex_number a c d b))) l) (sym (snoc2 inner done front (92 ∷ 117 ∷ a ∷ c ∷ d ∷ []) b e)) q)
low_goes_on t inner done front (a ∷ c ∷ d ∷ f ∷ fs) hi n u b s high hu h e hb = absurd h

-- any byte that doesn't end the text
pub text_goes_on : (t inner : List ℕ) (m : TextMode) (b : ℕ) → TextStands t m inner → closes m b ≡ false → TextGoesOn (inner ++ b ∷ []) (text_step t m b)
unfolding text_step
text_goes_on t inner (Character Boundary) b s f =
    cond_both (b == 92) _ _ (λ o. TextGoesOn (inner ++ b ∷ []) o)
    (λ e. let same : b ≡ 92 = eqb-true b 92 e in (inner, s, ap (λ k. inner ++ k ∷ []) same))
    (λ e. cond_both (nat_lt b 32) _ _ (λ o. TextGoesOn (inner ++ b ∷ []) o) (λ _. tt)
    (λ g. rw (step_at_boundary b) (plain_goes_on t inner b (lead_state b) s (ltb-false b 32 g) (eqb-false b 34 f) (eqb-false b 92 e) (lead_begins b) (rw (step_at_boundary b) at (step_live Boundary b)))))
text_goes_on t inner (Character (Inside lo hi left)) b s f =
    part_goes_on t inner s.0 s.1 s.2 b (utf8_step (Inside lo hi left) b) s.3 s.6 s.7 (step_begins s.2 lo hi left b s.4) (step_live (Inside lo hi left) b)
text_goes_on t inner Escape b s f =
    cond_both (b == 117) _ _ (λ o. TextGoesOn (inner ++ b ∷ []) o)
    (λ e. let same : b ≡ 117 = eqb-true b 117 e in (s.0, [], s.1, (refl, refl), snoc inner s.0 (92 ∷ []) b s.2 ∙ ap (λ k. s.0 ++ 92 ∷ k ∷ []) same))
    (λ _. escape_goes_on t inner s.0 b s.1 s.2)
text_goes_on t inner (UnitMode n u) b s f =
    cond_both (nat_lt (digit_value b) 16) _ _ (λ o. TextGoesOn (inner ++ b ∷ []) o)
    (λ e. unit_goes_on t inner s.0 s.1 n u b s.2 s.3 s.4 (ltb-true _ _ e))
    (λ _. tt)
text_goes_on t inner (AfterHigh h) b s f =
    cond_both (b == 92) _ _ (λ o. TextGoesOn (inner ++ b ∷ []) o)
    (λ e. let same : b ≡ 92 = eqb-true b 92 e in (s.0, s.1, s.2, s.3, s.4, snoc inner s.0 s.1 b s.5 ∙ ap (λ k. s.0 ++ (s.1 ++ k ∷ [])) same))
    (λ _. tt)
text_goes_on t inner (AfterHighEscape h) b s f =
    cond_both (b == 117) _ _ (λ o. TextGoesOn (inner ++ b ∷ []) o)
    (λ e. let same : b ≡ 117 = eqb-true b 117 e in (s.0, s.1, [], s.2, s.3, s.4, (refl, refl), snoc2 inner s.0 s.1 (92 ∷ []) b s.5 ∙ ap (λ k. s.0 ++ (s.1 ++ 92 ∷ k ∷ [])) same))
    (λ _. tt)
text_goes_on t inner (Low h n u) b s f =
    cond_both (nat_lt (digit_value b) 16) _ _ (λ o. TextGoesOn (inner ++ b ∷ []) o)
    (λ e. low_goes_on t inner s.0 s.1 s.2 h n u b s.3 s.4 s.5 s.6 s.7 (ltb-true _ _ e))
    (λ _. tt)
