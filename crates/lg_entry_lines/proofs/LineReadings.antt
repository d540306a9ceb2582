-- What the bytes of a line are read as.
use Rattle.std.proofs.Common.{◌≡◌, ℕ, Bool, List, inl, inr, refl, sym, subst}
use Rattle.std.specs.Prelude.{Result, Ok, Err, ◌≢◌}
use Rattle.lg_json.specs.Grammar.{IsJson, Fits}
use Rattle.lg_json.specs.Tree.{Tree, tree}
use Rattle.lg_json.specs.View.{Gives}
use Rattle.lg_json.specs.declared.json.Json.{Json}
use Rattle.lg_json.specs.declared.json.JsonFault.{JsonFault}
use Rattle.lg_json.specs.declared.json.JsonFault.TheVariants.{Syntax, NotWhole, TooWide, TooDeep, Repeated, NoMemory}
use Rattle.lg_types.specs.declared.records.Entry.{Entry}
use Rattle.lg_types.specs.declared.refusals.ImportCause.TheVariants as causes
use Rattle.lg_types.specs.declared.refusals.Refusal.{Refusal}
use Rattle.lg_readings.specs.Answers.{Answer}
use Rattle.lg_readings.specs.Checked.{Shows}
use Rattle.lg_readings.specs.EntryLines.{LineOf}
use Rattle.lg_readings.specs.declared.readings.ReadEntry.{ReadEntry}
use Rattle.lg_entry_lines.specs.Laws.{GivesOnly, ReadsAs}
use Rattle.lg_entry_lines.specs.Lines.{IsReadLine, IsReadValue, IsFaultOf, Found}
use Rattle.lg_entry_lines.specs.declared.lines.LineFault.{LineFault}
use Rattle.lg_entry_lines.specs.declared.lines.LineFault.TheVariants.{Bad, NoMemory as NoRoom}

same_ok : {A E : Type 0} (x y : A) → ◌≡◌ {A = Result A E} (Ok x) (Ok y) → x ≡ y
same_ok x y e = cc

-- each value that the bytes have is the answer, unless memory is wanting
abbrev pub OnlyValue : List ℕ → Result Json JsonFault → Type 0
OnlyValue bytes r = (t : Tree) → IsJson t bytes → Fits 64 t → Gives tree r (Ok t)

-- a value that was read
pub line_of_value : (recompute : Bool) (bytes : List ℕ) (t : Tree) → Shows bytes t → (r : Result ReadEntry LineFault) → IsReadValue recompute t r → IsReadLine recompute bytes r
line_of_value recompute bytes t shows (Ok found) h = inl (t, Ok found, shows, h, refl)
line_of_value recompute bytes t shows (Err (Bad cause)) h = inl (t, Err h.0, shows, h.1, h.2)
line_of_value recompute bytes t shows (Err NoRoom) h = tt

found_by : (recompute : Bool) (t : Tree) (entry : ReadEntry) → GivesOnly (LineOf recompute t) entry → (r : Result ReadEntry LineFault) → IsReadValue recompute t r → Found entry r
found_by recompute t entry reads (Ok found) h = same_ok {E = Refusal} found entry (reads.only (Ok found) h)
found_by recompute t entry reads (Err (Bad cause)) h = absurd (let e : ◌≡◌ {A = Answer ReadEntry} (Err h.0) (Ok entry) = reads.only (Err h.0) h.1 in cc)
found_by recompute t entry reads (Err NoRoom) h = tt

pub found_back : (recompute : Bool) (bytes : List ℕ) (v : Json) (e : Entry) (form : ℕ) → ReadsAs bytes e form → OnlyValue bytes (Ok v) → (r : Result ReadEntry LineFault) → IsReadValue recompute (tree v) r → Found (record { entry = e; form = form }) r
found_back recompute bytes v e form back only r h =
    let same : back.line ≡ tree v = same_ok {E = JsonFault} back.line (tree v) (only back.line back.shows.0 back.shows.1) in
    found_by recompute back.line (record { entry = e; form = form }) (back.reads recompute) r (subst (λ (t : Tree). IsReadValue recompute t r) (sym same) h)

-- a fault of the bytes: they have no value
no_value : (bytes : List ℕ) (f : JsonFault) → OnlyValue bytes (Err f) → f ≢ NoMemory → (t : Tree) → ¬ (Shows bytes t)
no_value bytes (Syntax p) only other t shows = absurd (let e : ◌≡◌ {A = Result Tree JsonFault} (Ok t) (Err (Syntax p)) = only t shows.0 shows.1 in cc)
no_value bytes (NotWhole p) only other t shows = absurd (let e : ◌≡◌ {A = Result Tree JsonFault} (Ok t) (Err (NotWhole p)) = only t shows.0 shows.1 in cc)
no_value bytes (TooWide p) only other t shows = absurd (let e : ◌≡◌ {A = Result Tree JsonFault} (Ok t) (Err (TooWide p)) = only t shows.0 shows.1 in cc)
no_value bytes (TooDeep p) only other t shows = absurd (let e : ◌≡◌ {A = Result Tree JsonFault} (Ok t) (Err (TooDeep p)) = only t shows.0 shows.1 in cc)
no_value bytes (Repeated p) only other t shows = absurd (let e : ◌≡◌ {A = Result Tree JsonFault} (Ok t) (Err (Repeated p)) = only t shows.0 shows.1 in cc)
no_value bytes NoMemory only other t shows = absurd (other refl)

-- so they are no line
json_line : (recompute : Bool) (bytes : List ℕ) (fault : LineFault) → ((t : Tree) → ¬ (Shows bytes t)) → fault ≡ Bad causes.Json → IsReadLine recompute bytes (Err fault)
json_line recompute bytes fault none e = subst (λ (x : LineFault). IsReadLine recompute bytes (Err x)) (sym e) (inr (none, refl))

no_room : (recompute : Bool) (bytes : List ℕ) (fault : LineFault) → fault ≡ NoRoom → IsReadLine recompute bytes (Err fault)
no_room recompute bytes fault e = subst (λ (x : LineFault). IsReadLine recompute bytes (Err x)) (sym e) tt

pub no_line : (recompute : Bool) (bytes : List ℕ) (f : JsonFault) (fault : LineFault) → IsFaultOf f fault → OnlyValue bytes (Err f) → IsReadLine recompute bytes (Err fault)
no_line recompute bytes (Syntax p) fault e only = json_line recompute bytes fault (no_value bytes (Syntax p) only (λ k. absurd cc)) e
no_line recompute bytes (NotWhole p) fault e only = json_line recompute bytes fault (no_value bytes (NotWhole p) only (λ k. absurd cc)) e
no_line recompute bytes (TooWide p) fault e only = json_line recompute bytes fault (no_value bytes (TooWide p) only (λ k. absurd cc)) e
no_line recompute bytes (TooDeep p) fault e only = json_line recompute bytes fault (no_value bytes (TooDeep p) only (λ k. absurd cc)) e
no_line recompute bytes (Repeated p) fault e only = json_line recompute bytes fault (no_value bytes (Repeated p) only (λ k. absurd cc)) e
no_line recompute bytes NoMemory fault e only = no_room recompute bytes fault e

-- and the bytes are no entry's
not_read : (bytes : List ℕ) (e : Entry) (form : ℕ) (fault : LineFault) → ((t : Tree) → ¬ (Shows bytes t)) → ReadsAs bytes e form → Found (record { entry = e; form = form }) (Err fault)
not_read bytes e form fault none back = absurd (none back.line back.shows)

pub not_found : (bytes : List ℕ) (e : Entry) (form : ℕ) (f : JsonFault) (fault : LineFault) → IsFaultOf f fault → OnlyValue bytes (Err f) → ReadsAs bytes e form → Found (record { entry = e; form = form }) (Err fault)
not_found bytes e form (Syntax p) fault is only back = not_read bytes e form fault (no_value bytes (Syntax p) only (λ k. absurd cc)) back
not_found bytes e form (NotWhole p) fault is only back = not_read bytes e form fault (no_value bytes (NotWhole p) only (λ k. absurd cc)) back
not_found bytes e form (TooWide p) fault is only back = not_read bytes e form fault (no_value bytes (TooWide p) only (λ k. absurd cc)) back
not_found bytes e form (TooDeep p) fault is only back = not_read bytes e form fault (no_value bytes (TooDeep p) only (λ k. absurd cc)) back
not_found bytes e form (Repeated p) fault is only back = not_read bytes e form fault (no_value bytes (Repeated p) only (λ k. absurd cc)) back
not_found bytes e form NoMemory fault is only back = subst (λ (x : LineFault). Found (record { entry = e; form = form }) (Err x)) (sym is) tt
