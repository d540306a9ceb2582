-- Export and import: which entries may follow a log, what a list of lines comes to, and which logs read back as themselves.
use Rattle.std.specs.Prelude.{◌≡◌, ℕ, ℤ, Bool, false, not, ◌&&◌, ◌||◌, if◌then◌else◌, nat_eq, int_lt, List, [], ◌∷◌, ◌++◌, Option, Some, None, is_some, is_none}
use Rattle.std.specs.List.{flat_map}
use Rattle.std.specs.Str.{bytes_eq}
use Rattle.lg_types.specs.declared.calls.Batch.{Batch}
use Rattle.lg_types.specs.declared.calls.Batch.TheVariants.{Ready, Bad}
use Rattle.lg_types.specs.declared.forms.EntryForm.TheVariants.{Line}
use Rattle.lg_types.specs.declared.records.Entry.{Entry}
use Rattle.lg_types.specs.declared.records.EntryBody.{EntryBody}
use Rattle.lg_types.specs.declared.records.EntryBody.TheVariants.{NewTransaction, SetMetadata, Reverted, DeleteMetadata}
use Rattle.lg_types.specs.declared.records.KeyMark.{KeyMark}
use Rattle.lg_types.specs.declared.records.Transaction.{Transaction}
use Rattle.lg_types.specs.declared.records.Target.{Target}
use Rattle.lg_types.specs.declared.records.Target.TheVariants.{Account, Transaction as TransactionOf}
use Rattle.lg_types.specs.declared.refusals.ImportCause.{ImportCause}
use Rattle.lg_types.specs.declared.refusals.ImportCause.TheVariants as cause
use Rattle.lg_types.specs.declared.refusals.Refusal.TheVariants.{Import}
use Rattle.lg_types.specs.Lists.{last_of}
use Rattle.lg_types.specs.Chain.{line_hash, chained_by, own_hash}
use Rattle.lg_types.specs.EntryTexts.{entry_text}
use Rattle.lg_types.specs.Known.{kept, used, find_transaction, undone, next_entry, next_transaction}
use Rattle.lg_types.specs.Moves.{moves, body_transaction}
use Rattle.lg_types.specs.Trial.{limit_from}
use Rattle.lg_views.specs.declared.replies.Content.TheVariants.{Empty}
use Rattle.lg_views.specs.declared.replies.Reply.{Reply}
use Rattle.lg_views.specs.Replies.{plain, refused}

-- the first cause of a list whose test holds
abbrev pub first_cause : List (Bool × ImportCause) → Option ImportCause
first_cause [] = None
first_cause (c ∷ cs) = if c.0 then Some c.1 else first_cause cs

abbrev pub is_before : Option Entry → ℤ → Bool
is_before None date = false
is_before (Some e) date = int_lt date e.date

abbrev pub has_used_key : List Entry → Option KeyMark → Bool
has_used_key g None = false
has_used_key g (Some mark) = is_some (kept g mark.key)

abbrev pub has_used_reference : List Entry → Option (List ℕ) → Bool
has_used_reference g None = false
has_used_reference g (Some reference) = is_some (used g reference)

abbrev pub is_referred : List Entry → Option Transaction → Bool
is_referred g None = false
is_referred g (Some t) = has_used_reference g t.reference

abbrev pub is_misnumbered : List Entry → Option Transaction → Bool
is_misnumbered g None = false
is_misnumbered g (Some t) = not (nat_eq t.id (next_transaction g))

-- what is reverted isn't there, or is reverted already
abbrev pub reverts_wrong : List Entry → EntryBody → Bool
reverts_wrong g (NewTransaction t accounts) = false
reverts_wrong g (SetMetadata target metadata) = false
reverts_wrong g (Reverted id t) = is_none (find_transaction g id) || is_some (undone g id)
reverts_wrong g (DeleteMetadata target name) = false

abbrev pub is_missing : List Entry → Target → Bool
is_missing g (Account address) = false
is_missing g (TransactionOf id) = is_none (find_transaction g id)

-- metadata of a transaction that isn't there
abbrev pub targets_wrong : List Entry → EntryBody → Bool
targets_wrong g (NewTransaction t accounts) = false
targets_wrong g (SetMetadata target metadata) = is_missing g target
targets_wrong g (Reverted id t) = false
targets_wrong g (DeleteMetadata target name) = is_missing g target

-- an input or output passes the limit
abbrev pub is_over_limit : List Entry → Option Transaction → Bool
is_over_limit g None = false
is_over_limit g (Some t) = is_some (limit_from (moves g) 0 t.postings)

-- why an entry may not follow a log, in the order of the causes
abbrev pub causes_with : Bool → List Entry → Entry → List (Bool × ImportCause)
causes_with bad_hash g e =
    (not (nat_eq e.id (next_entry g)), cause.Id)
    ∷ (is_before (last_of g) e.date, cause.Date)
    ∷ (bad_hash, cause.Hash)
    ∷ (has_used_key g e.mark, cause.Key)
    ∷ (is_referred g (body_transaction e.body), cause.Reference)
    ∷ (is_misnumbered g (body_transaction e.body), cause.Transaction)
    ∷ (reverts_wrong g e.body, cause.Revert)
    ∷ (targets_wrong g e.body, cause.Target)
    ∷ (is_over_limit g (body_transaction e.body), cause.Limit)
    ∷ []

abbrev pub causes : List Entry → Entry → List (Bool × ImportCause)
causes g e = causes_with (not (bytes_eq e.hash (own_hash g e))) g e

-- the first cause why an entry may not follow a log
abbrev pub fault : List Entry → Entry → Option ImportCause
fault g e = first_cause (causes g e)

-- each of the entries may follow the log and those before it
abbrev pub FollowsFrom : List Entry → List Entry → Type 0
FollowsFrom g [] = Unit {0}
FollowsFrom g (e ∷ es) = (fault g e ≡ None) × FollowsFrom (g ++ e ∷ []) es

-- a log that an import takes as it is
pub record IsFaultless (g : List Entry) : Type 0 where
  pub follows : FollowsFrom [] g

-- ---- lines

-- the lines of a log, each with a newline
abbrev pub line_text : Entry → List ℕ
line_text e = entry_text e Line ++ (10 ∷ [])

abbrev pub export : List Entry → List ℕ
export g = flat_map line_text g

-- a line that was read: an entry with its log form, or the cause why it is none
pub data ReadLine : Type 0 where
  Read : (form : ℕ) (entry : Entry) → ReadLine
  Unread : ImportCause → ReadLine

-- a line that isn't empty, with its number
pub record NumberedLine : Type 0 where
  pub number : ℕ
  pub line : ReadLine

-- what was read before a line: the entries with the hashes of log form 2, the own hash of the line before, and the form of the first
pub record Reading : Type 0 where
  pub entries : List Entry
  pub own : Option (List ℕ)
  pub form : Option ℕ

abbrev pub first_reading : Reading
first_reading = record { entries = []; own = None; form = None }

abbrev pub is_other_form : Option ℕ → ℕ → Bool
is_other_form None form = false
is_other_form (Some first) form = not (nat_eq first form)

abbrev pub own_line_hash : Reading → ℕ → Entry → List ℕ
own_line_hash r form e = line_hash (chained_by form) r.own e

-- with `recompute` no hash of a line is looked at
abbrev pub line_causes : Bool → Reading → ℕ → Entry → List (Bool × ImportCause)
line_causes recompute r form e = (is_other_form r.form form, cause.Form) ∷ causes_with (not recompute && not (bytes_eq e.hash (own_line_hash r form e))) r.entries e

abbrev pub line_fault : Bool → Reading → ReadLine → Option ImportCause
line_fault recompute r (Read form e) = first_cause (line_causes recompute r form e)
line_fault recompute r (Unread cause) = Some cause

abbrev pub chained : List Entry → Entry → Entry
chained g e = record e { hash = own_hash g e }

abbrev pub first_form : Option ℕ → ℕ → Option ℕ
first_form None form = Some form
first_form (Some first) form = Some first

abbrev pub read_on : Reading → ReadLine → Reading
read_on r (Read form e) = record { entries = r.entries ++ chained r.entries e ∷ []; own = Some (own_line_hash r form e); form = first_form r.form form }
read_on r (Unread cause) = r

-- where a walk over lines stands: what was read so far, or the first bad line with its first cause
pub data LinesRead : Type 0 where
  ReadTo : Reading → LinesRead
  BadAt : (number : ℕ) (cause : ImportCause) → LinesRead

abbrev pub unless_bad : ℕ → Reading → Option ImportCause → LinesRead
unless_bad number r None = ReadTo r
unless_bad number r (Some cause) = BadAt number cause

-- one line more; behind a bad line nothing is read
abbrev pub read_line : Bool → LinesRead → NumberedLine → LinesRead
read_line recompute (ReadTo r) l = unless_bad l.number (read_on r l.line) (line_fault recompute r l.line)
read_line recompute (BadAt number cause) l = BadAt number cause

-- the fold over lines, from where a walk stands
abbrev pub read_lines_from : Bool → LinesRead → List NumberedLine → LinesRead
read_lines_from recompute s [] = s
read_lines_from recompute s (l ∷ ls) = read_lines_from recompute (read_line recompute s l) ls

abbrev pub read_lines : Bool → List NumberedLine → LinesRead
read_lines recompute ls = read_lines_from recompute (ReadTo first_reading) ls

abbrev pub batch_of : LinesRead → Batch
batch_of (ReadTo r) = Ready r.entries
batch_of (BadAt number cause) = Bad number cause

-- what lines come to: the entries, or the first bad line with its first cause
abbrev pub checked_lines : Bool → List NumberedLine → Batch
checked_lines recompute ls = batch_of (read_lines recompute ls)

-- an import goes into a log without entries
abbrev pub import_answer : List Entry → Batch → Reply × List Entry
import_answer (e ∷ g) batch = (refused (Import 0 cause.NotEmpty), [])
import_answer [] (Ready entries) = (plain Empty, entries)
import_answer [] (Bad line c) = (refused (Import line c), [])
