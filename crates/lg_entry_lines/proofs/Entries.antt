-- The line of an entry, and what it is read as.
use Rattle.std.proofs.Common.{◌≡◌, ℕ, ◌^◌, Bool, true, false, not, ◌&&◌, List, [], ◌∷◌, ◌++◌, Option, Some, None, inr, refl, sym, ap, subst, ◌∙◌, append_assoc, arith}
use Rattle.std.specs.Prelude.{Result, Ok, pos, decimal, codes, IfSome}
use Rattle.std.specs.List.{concat}
use Rattle.std.specs.Str.{bytes_eq}
use Rattle.std.proofs.lemmas.Bool.{and_parts, and_from}
use Rattle.std.proofs.lemmas.List.{append-nil}
use Rattle.base64.specs.GeneralPurpose.{encode_of}
use Rattle.base64.specs.Engines.{standard}
use Rattle.lg_base.specs.Texts.{quoted}
use Rattle.lg_containers.specs.CountedGrammar.{IsKey}
use Rattle.lg_json.specs.Grammar.{IsWhole, IsValue, Fits}
use Rattle.lg_json.proofs.Whole.{json_value}
use Rattle.lg_json.specs.declared.json.JsonFault.{JsonFault}
use Rattle.lg_json.specs.Tree.{Tree, Members}
use Rattle.lg_json.specs.Tree.Tree.{null, whole, text, members}
use Rattle.lg_json.specs.Tree.Members.{no_member, member}
use Rattle.lg_time.specs.Canonical.{moment_text}
use Rattle.lg_types.specs.EntryTexts.{mark_text, entry_text}
use Rattle.lg_types.specs.PartTexts.{hash_text, date_text, optional_text}
use Rattle.lg_types.specs.declared.forms.EntryForm.TheVariants.{Line, FirstLine}
use Rattle.lg_types.specs.declared.records.Entry.{Entry}
use Rattle.lg_types.specs.declared.records.KeyMark.{KeyMark}
use Rattle.lg_readings.specs.Paths.{Path, top, below}
use Rattle.lg_readings.specs.Answers.{known}
use Rattle.lg_readings.specs.Values.{under, id_of, SomeName}
use Rattle.lg_readings.specs.Checked.{Shows}
use Rattle.lg_readings.specs.EntryLines.{form_of, MarkIn, LineHash, LineIn}
use Rattle.lg_entry_lines.specs.Laws.{GivesOnly, ReadsAs, EntryReadsBack, FirstLineReadsBack}
use Rattle.lg_types.specs.Records.{IsHash, IsMark, IsEntry}
use Rattle.lg_entry_lines.proofs.Bodies.{type_name, data_members, body_members, body_object, data_fits, body_reads}
use Rattle.lg_entry_lines.proofs.Hashes.{hash_is_string}
use Rattle.lg_entry_lines.proofs.Moments.{date_is_string}
use Rattle.lg_entry_lines.proofs.Names.{key_utf8}
use Rattle.lg_entry_lines.proofs.Objects.{Follows, nothing_more, one_more, is_new, Fitting, none_fits, one_fits, object_fits}
use Rattle.lg_entry_lines.proofs.Readings.{only_known, only_gives, only_form, only_then, only_number, only_moment, only_hash}
use Rattle.lg_entry_lines.proofs.Strings.{text_is_string}
use Rattle.lg_entry_lines.proofs.Transactions.{id_is_whole, id_fits}

-- ---- the key and its hash

abbrev mark_members : Option KeyMark → Members → Members
mark_members None ms = ms
mark_members (Some mark) ms = member (codes "idempotencyKey") (text mark.key) (member (codes "idempotencyHash") (text (encode_of standard mark.input_hash)) ms)

-- a text in three parts, the last of which has nothing after it, and what follows
three_parts : (a b c bytes : List ℕ) → (a ++ (b ++ (c ++ []))) ++ bytes ≡ a ++ (b ++ (c ++ bytes))
three_parts a b c bytes =
    append_assoc a (b ++ (c ++ [])) bytes ∙ ap (λ (l : List ℕ). a ++ l) (append_assoc b (c ++ []) bytes)
    ∙ ap (λ (l : List ℕ). a ++ (b ++ (l ++ bytes))) (append-nil c)

mark_follows : (mark : Option KeyMark) {ms : Members} {bytes rest : List ℕ} → IfSome mark IsMark → Follows ms bytes rest → Follows (mark_members mark ms) (optional_text mark_text mark ++ bytes) rest
mark_follows None h f = f
mark_follows (Some mark) {ms = ms} {bytes = bytes} {rest = rest} h f =
    subst (λ (l : List ℕ). Follows (mark_members (Some mark) ms) (codes ",\"idempotencyKey\":" ++ l) rest) (sym (three_parts (quoted mark.key) (codes ",\"idempotencyHash\":") (hash_text mark.input_hash) bytes))
    (one_more (codes "idempotencyKey") (text mark.key) (quoted mark.key) refl (text_is_string mark.key (key_utf8 mark.key h.key))
    (one_more (codes "idempotencyHash") (text (encode_of standard mark.input_hash)) (hash_text mark.input_hash) refl (hash_is_string mark.input_hash h.input_hash.bytes) f))

-- ---- the members of a line, in their order: of log form 2, or of log form 1, whose lines have no form

abbrev form_members : Bool → Members → Members
form_members true ms = member (codes "form") (whole (pos 2)) ms
form_members false ms = ms

abbrev form_of_line : Bool → ℕ
form_of_line true = 2
form_of_line false = 1

abbrev end_members : Bool → Entry → Members
end_members second e = form_members second (member (codes "id") (whole (pos e.id)) (member (codes "hash") (text (encode_of standard e.hash)) no_member))

abbrev line_members : Bool → Entry → Members
line_members second e = body_members e.body (member (codes "date") (text (moment_text e.date)) (mark_members e.mark (end_members second e)))

abbrev end_text : Bool → Entry → List ℕ
end_text true e = concat (codes ",\"form\":2,\"id\":" ∷ decimal e.id ∷ codes ",\"hash\":" ∷ hash_text e.hash ∷ codes "}" ∷ [])
end_text false e = concat (codes ",\"id\":" ∷ decimal e.id ∷ codes ",\"hash\":" ∷ hash_text e.hash ∷ codes "}" ∷ [])

abbrev text_of_line : Bool → Entry → List ℕ
text_of_line true e = entry_text e Line
text_of_line false e = entry_text e FirstLine

two : IsWhole (pos 2) (codes "2")
two = record { negative = false; digits = 50 ∷ []; is_int = inr (omega arith, omega arith, tt); value = refl; parts = refl }

id_and_hash : (e : Entry) → IsEntry e → Follows (end_members false e) (end_text false e) (125 ∷ [])
id_and_hash e h =
    one_more (codes "id") (whole (pos e.id)) (decimal e.id) refl (id_is_whole e.id h.id)
    (one_more (codes "hash") (text (encode_of standard e.hash)) (hash_text e.hash) refl (hash_is_string e.hash h.hash.bytes)
    (nothing_more (125 ∷ [])))

end_follows : (second : Bool) (e : Entry) → IsEntry e → Follows (end_members second e) (end_text second e) (125 ∷ [])
end_follows true e h = one_more (codes "form") (whole (pos 2)) (codes "2") refl two (id_and_hash e h)
end_follows false e h = id_and_hash e h

from_date : (second : Bool) (e : Entry) → IsEntry e
    → Follows (member (codes "date") (text (moment_text e.date)) (mark_members e.mark (end_members second e))) (44 ∷ (quoted (codes "date") ++ 58 ∷ (date_text e.date ++ (optional_text mark_text e.mark ++ end_text second e)))) (125 ∷ [])
from_date second e h = one_more (codes "date") (text (moment_text e.date)) (date_text e.date) refl (date_is_string e.date h.date) (mark_follows e.mark h.mark (end_follows second e h))

line_is_object : (second : Bool) (e : Entry) → IsEntry e → IsValue (members (line_members second e)) (text_of_line second e)
line_is_object true e h = body_object e.body h.body (from_date true e h)
line_is_object false e h = body_object e.body h.body (from_date false e h)

-- ---- the limits

mark_new : (name : List ℕ) (mark : Option KeyMark) (ms : Members) → is_new name (member (codes "idempotencyKey") null (member (codes "idempotencyHash") null ms)) ≡ true → is_new name (mark_members mark ms) ≡ true
mark_new name None ms h =
    let p = and_parts (not (bytes_eq name (codes "idempotencyKey"))) (not (bytes_eq name (codes "idempotencyHash")) && is_new name ms) h in
    (and_parts (not (bytes_eq name (codes "idempotencyHash"))) (is_new name ms) p.1).1
mark_new name (Some mark) ms h = h

form_new : (name : List ℕ) (second : Bool) (ms : Members) → is_new name (member (codes "form") null ms) ≡ true → is_new name (form_members second ms) ≡ true
form_new name true ms h = h
form_new name false ms h = (and_parts (not (bytes_eq name (codes "form"))) (is_new name ms) h).1

-- a name that the key, its hash, the form, the id and the hash don't have
abbrev is_other : List ℕ → Bool
is_other name =
    not (bytes_eq name (codes "idempotencyKey")) && (not (bytes_eq name (codes "idempotencyHash")) && (not (bytes_eq name (codes "form")) && (not (bytes_eq name (codes "id")) && (not (bytes_eq name (codes "hash")) && true))))

end_new : (name : List ℕ) (mark : Option KeyMark) (second : Bool) (e : Entry) → is_other name ≡ true → is_new name (mark_members mark (end_members second e)) ≡ true
end_new name mark second e h =
    let p = and_parts (not (bytes_eq name (codes "idempotencyKey"))) _ h in
    let q = and_parts (not (bytes_eq name (codes "idempotencyHash"))) _ p.1 in
    mark_new name mark (end_members second e) (and_from _ _ p.0 (and_from _ _ q.0 (form_new name second (end_members false e) q.1)))

id_and_hash_fit : (room : ℕ) (e : Entry) → IsEntry e → Fitting room (end_members false e)
id_and_hash_fit room e h = one_fits refl (id_fits e.id h.id) (one_fits refl tt (none_fits room))

end_fits : (room : ℕ) (second : Bool) (e : Entry) → IsEntry e → Fitting room (end_members second e)
end_fits room true e h = one_fits refl (omega arith) (id_and_hash_fit room e h)
end_fits room false e h = id_and_hash_fit room e h

mark_fits : (room : ℕ) (mark : Option KeyMark) (second : Bool) (e : Entry) → IsEntry e → Fitting room (mark_members mark (end_members second e))
mark_fits room None second e h = end_fits room second e h
mark_fits room (Some mark) second e h =
    one_fits (and_from _ _ refl (form_new (codes "idempotencyKey") second (end_members false e) refl)) tt (one_fits (form_new (codes "idempotencyHash") second (end_members false e) refl) tt (end_fits room second e h))

line_fits : (second : Bool) (e : Entry) → IsEntry e → Fits 64 (members (line_members second e))
line_fits second e h =
    object_fits 64 (line_members second e) (omega arith)
    (one_fits (end_new (codes "type") e.mark second e refl) tt
    (one_fits (end_new (codes "data") e.mark second e refl) (data_fits 63 e.body (omega arith) h.body)
    (one_fits (end_new (codes "date") e.mark second e refl) tt (mark_fits 63 e.mark second e h))))

-- ---- the reading

key_reads : (path : Path) (key : List ℕ) → IsKey key → GivesOnly (SomeName IsKey path key) (Some key)
key_reads path [] h = absurd cc
key_reads path (b ∷ bs) h = only_then (only_form (IsKey (b ∷ bs)) path (b ∷ bs) h) (only_gives (Some (b ∷ bs)))

abbrev from_type : Tree → Tree → Tree → Option KeyMark → Bool → Entry → Members
from_type type body date mark second e = member (codes "type") type (member (codes "data") body (member (codes "date") date (mark_members mark (end_members second e))))

mark_reads : (type body date : Tree) (mark : Option KeyMark) (second : Bool) (e : Entry) → IfSome mark IsMark → GivesOnly (MarkIn (from_type type body date mark second e)) mark
mark_reads type body date None true e h = only_then (only_gives None) (only_gives None)
mark_reads type body date None false e h = only_then (only_gives None) (only_gives None)
mark_reads type body date (Some mark) second e h =
    only_then (key_reads (below top (codes "idempotencyKey")) mark.key h.key)
    (only_then (only_hash (below top (codes "idempotencyHash")) mark.input_hash h.input_hash) (only_gives (Some mark)))

form_reads : (mark : Option KeyMark) (second : Bool) (e : Entry) → GivesOnly (known (form_of (below top (codes "form")) (under (codes "form") (mark_members mark (end_members second e))))) (form_of_line second)
form_reads None true e = only_known refl
form_reads None false e = only_known refl
form_reads (Some mark) true e = only_known refl
form_reads (Some mark) false e = only_known refl

-- the members of a name after the key and the form
past : (name : List ℕ) (mark : Option KeyMark) (second : Bool) (ms : Members) → bytes_eq (codes "idempotencyKey") name ≡ false → bytes_eq (codes "idempotencyHash") name ≡ false → bytes_eq (codes "form") name ≡ false
    → under name (mark_members mark (form_members second ms)) ≡ under name ms
past name None true ms k h f = rw f refl
past name None false ms k h f = refl
past name (Some mark) true ms k h f = rw (k, h, f) refl
past name (Some mark) false ms k h f = rw (k, h) refl

abbrev id_members : Entry → Members
id_members e = member (codes "id") (whole (pos e.id)) (member (codes "hash") (text (encode_of standard e.hash)) no_member)

id_reads : (mark : Option KeyMark) (second : Bool) (e : Entry) → IsEntry e → GivesOnly (known (id_of (below top (codes "id")) (under (codes "id") (mark_members mark (end_members second e))))) e.id
id_reads mark second e h =
    subst (λ (v : Option Tree). GivesOnly (known (id_of (below top (codes "id")) v)) e.id) (sym (past (codes "id") mark second (id_members e) refl refl refl)) (only_number (below top (codes "id")) (2 ^ 64) e.id h.id)

hash_reads : (recompute : Bool) (path : Path) (hash : List ℕ) → IsHash hash → GivesOnly (LineHash recompute path (Some (text (encode_of standard hash)))) hash
hash_reads true path hash h = only_hash path hash h
hash_reads false path hash h = only_hash path hash h

line_hash_reads : (recompute : Bool) (mark : Option KeyMark) (second : Bool) (e : Entry) → IsEntry e → GivesOnly (LineHash recompute (below top (codes "hash")) (under (codes "hash") (mark_members mark (end_members second e)))) e.hash
line_hash_reads recompute mark second e h =
    subst (λ (v : Option Tree). GivesOnly (LineHash recompute (below top (codes "hash")) v) e.hash) (sym (past (codes "hash") mark second (id_members e) refl refl refl)) (hash_reads recompute (below top (codes "hash")) e.hash h.hash)

line_in : (recompute second : Bool) (e : Entry) → IsEntry e → GivesOnly (LineIn recompute (line_members second e)) (record { entry = e; form = form_of_line second })
line_in recompute second e h =
    only_then (body_reads e.body (member (codes "date") (text (moment_text e.date)) (mark_members e.mark (end_members second e))) h.body)
    (only_then (only_moment (below top (codes "date")) e.date h.date)
    (only_then (mark_reads (text (type_name e.body)) (members (data_members e.body)) (text (moment_text e.date)) e.mark second e h.mark)
    (only_then (form_reads e.mark second e)
    (only_then (id_reads e.mark second e h)
    (only_then (line_hash_reads recompute e.mark second e h)
    (only_gives (record { entry = e; form = form_of_line second })))))))

-- a JSON text within the limits has one value
same_ok : {A E : Type 0} (x y : A) → ◌≡◌ {A = Result A E} (Ok x) (Ok y) → x ≡ y
same_ok x y e = cc

one_value : (bytes : List ℕ) (t u : Tree) → Shows bytes t → Shows bytes u → t ≡ u
one_value bytes t u h k = same_ok {E = JsonFault} t u (sym (json_value t bytes h.0 h.1) ∙ json_value u bytes k.0 k.1)

line_shows : (second : Bool) (e : Entry) → IsEntry e → Shows (text_of_line second e) (members (line_members second e))
line_shows second e h = (([], text_of_line second e, [], tt, line_is_object second e h, tt, sym (append-nil (text_of_line second e))), line_fits second e h)

line_reads : (second : Bool) (e : Entry) → IsEntry e → ReadsAs (text_of_line second e) e (form_of_line second)
line_reads second e h = record {
  line = members (line_members second e);
  shows = line_shows second e h;
  one = λ t shows. one_value (text_of_line second e) t (members (line_members second e)) shows (line_shows second e h);
  reads = λ recompute. only_then (only_known refl) (line_in recompute second e h);
}

pub entry_reads_back : EntryReadsBack
entry_reads_back e h = line_reads true e h

pub first_line_reads_back : FirstLineReadsBack
first_line_reads_back e h = line_reads false e h
