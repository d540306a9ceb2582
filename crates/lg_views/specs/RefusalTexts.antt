-- The texts of refusals: codes, statuses, messages and bodies.
use Rattle.std.specs.Prelude.{ℕ, List, [], ◌∷◌, ◌++◌, codes, decimal, ◌/◌, ◌%◌}
use Rattle.std.specs.Fmt.{signed_decimal}
use Rattle.std.specs.List.{concat, flat_map}
use Rattle.lg_base.specs.Texts.{quoted, hex_digit}
use Rattle.lg_types.specs.declared.refusals.FaultKind.{FaultKind}
use Rattle.lg_types.specs.declared.refusals.FaultKind.TheVariants as faults
use Rattle.lg_types.specs.declared.refusals.Reason.{Reason}
use Rattle.lg_types.specs.declared.refusals.Reason.TheVariants as reasons
use Rattle.lg_types.specs.declared.refusals.ImportCause.{ImportCause}
use Rattle.lg_types.specs.declared.refusals.ImportCause.TheVariants as causes
use Rattle.lg_types.specs.declared.refusals.Refusal.{Refusal}
use Rattle.lg_types.specs.declared.refusals.Refusal.TheVariants.{NoRoute, Method, LineJson, LineMember, BodyJson, Member, Parameter, Token, BadFilter, KeyInput, Script, NoPostings, BulkSize, NoLedger, LedgerThere, NoTransaction, NoAccount, Already, Lack, Below, Limit, SumLimit, Used, Import, NotBuilt, OutOfMemory}

-- the code of a refusal
abbrev pub code_of : Refusal → List ℕ
code_of NoRoute = codes "NO_ROUTE"
code_of Method = codes "METHOD_NOT_ALLOWED"
code_of (LineJson fault place) = codes "VALIDATION"
code_of (LineMember member reason) = codes "VALIDATION"
code_of (BodyJson fault place) = codes "VALIDATION"
code_of (Member path reason) = codes "VALIDATION"
code_of (Parameter name) = codes "VALIDATION"
code_of Token = codes "VALIDATION"
code_of (BadFilter path) = codes "VALIDATION"
code_of (KeyInput key kept given) = codes "VALIDATION"
code_of Script = codes "COMPILATION_FAILED"
code_of NoPostings = codes "NO_POSTINGS"
code_of (BulkSize elements) = codes "BULK_SIZE_EXCEEDED"
code_of (NoLedger name) = codes "LEDGER_NOT_FOUND"
code_of (LedgerThere name) = codes "LEDGER_ALREADY_EXISTS"
code_of (NoTransaction id) = codes "NOT_FOUND"
code_of (NoAccount address) = codes "NOT_FOUND"
code_of (Already id by) = codes "ALREADY_REVERT"
code_of (Lack posting account asset balance amount) = codes "INSUFFICIENT_FUND"
code_of (Below account asset balance) = codes "INSUFFICIENT_FUND"
code_of (Limit posting) = codes "AMOUNT_LIMIT"
code_of (SumLimit asset) = codes "AMOUNT_LIMIT"
code_of (Used reference id) = codes "CONFLICT"
code_of (Import line cause) = codes "IMPORT"
code_of NotBuilt = codes "NOT_BUILT"
code_of OutOfMemory = codes "OUT_OF_MEMORY"

-- the status of a refusal (RFC 9110, section 15)
abbrev pub refusal_status : Refusal → ℕ
refusal_status NoRoute = 404
refusal_status Method = 405
refusal_status (LineJson fault place) = 400
refusal_status (LineMember member reason) = 400
refusal_status (BodyJson fault place) = 400
refusal_status (Member path reason) = 400
refusal_status (Parameter name) = 400
refusal_status Token = 400
refusal_status (BadFilter path) = 400
refusal_status (KeyInput key kept given) = 400
refusal_status Script = 400
refusal_status NoPostings = 400
refusal_status (BulkSize elements) = 413
refusal_status (NoLedger name) = 404
refusal_status (LedgerThere name) = 400
refusal_status (NoTransaction id) = 404
refusal_status (NoAccount address) = 404
refusal_status (Already id by) = 400
refusal_status (Lack posting account asset balance amount) = 400
refusal_status (Below account asset balance) = 400
refusal_status (Limit posting) = 400
refusal_status (SumLimit asset) = 400
refusal_status (Used reference id) = 409
refusal_status (Import line cause) = 400
refusal_status NotBuilt = 501
refusal_status OutOfMemory = 503

abbrev pub fault_text : FaultKind → List ℕ
fault_text faults.Syntax = codes "syntax"
fault_text faults.NotWhole = codes "not whole"
fault_text faults.TooWide = codes "too wide"
fault_text faults.TooDeep = codes "too deep"
fault_text faults.Repeated = codes "repeated"

abbrev pub reason_text : Reason → List ℕ
reason_text reasons.Missing = codes "missing"
reason_text reasons.Kind = codes "type"
reason_text reasons.Form = codes "form"

abbrev pub cause_text : ImportCause → List ℕ
cause_text causes.Json = codes "json"
cause_text (causes.Member path) = codes "member " ++ path
cause_text causes.Form = codes "form"
cause_text causes.Id = codes "id"
cause_text causes.Date = codes "date"
cause_text causes.Hash = codes "hash"
cause_text causes.Key = codes "key"
cause_text causes.Reference = codes "reference"
cause_text causes.Transaction = codes "transaction"
cause_text causes.Revert = codes "revert"
cause_text causes.Target = codes "target"
cause_text causes.Limit = codes "limit"
cause_text causes.NotEmpty = codes "log is not empty"

-- the name of a line's member before its reason; nothing for a line that is no object
abbrev pub member_text : List ℕ → List ℕ
member_text [] = []
member_text (b ∷ bs) = (b ∷ bs) ++ codes ": "

-- a hash in hexadecimal, in lower case
abbrev pub hex_byte : ℕ → List ℕ
hex_byte b = hex_digit (b / 16) ∷ hex_digit (b % 16) ∷ []

abbrev pub hex_text : List ℕ → List ℕ
hex_text hash = flat_map hex_byte hash

-- the message of a refusal
abbrev pub message_text : Refusal → List ℕ
message_text NoRoute = codes "no route"
message_text Method = codes "method"
message_text (LineJson fault place) = concat (codes "line: " ∷ fault_text fault ∷ codes " at byte " ∷ decimal place ∷ [])
message_text (LineMember member reason) = concat (codes "line: " ∷ member_text member ∷ reason_text reason ∷ [])
message_text (BodyJson fault place) = concat (codes "body: " ∷ fault_text fault ∷ codes " at byte " ∷ decimal place ∷ [])
message_text (Member path reason) = concat (path ∷ codes ": " ∷ reason_text reason ∷ [])
message_text (Parameter name) = concat (codes "query " ∷ name ∷ [])
message_text Token = codes "cursor"
message_text (BadFilter path) = concat (codes "filter " ∷ path ∷ [])
message_text (KeyInput key kept given) = concat (codes "key " ∷ key ∷ codes ": kept " ∷ hex_text kept ∷ codes ", given " ∷ hex_text given ∷ [])
message_text Script = codes "script"
message_text NoPostings = codes "no postings"
message_text (BulkSize elements) = concat (decimal elements ∷ codes " elements" ∷ [])
message_text (NoLedger name) = concat (codes "ledger " ∷ name ∷ [])
message_text (LedgerThere name) = concat (codes "ledger " ∷ name ∷ [])
message_text (NoTransaction id) = concat (codes "transaction " ∷ decimal id ∷ [])
message_text (NoAccount address) = concat (codes "account " ∷ address ∷ [])
message_text (Already id by) = concat (codes "transaction " ∷ decimal id ∷ codes " is reverted by " ∷ decimal by ∷ [])
message_text (Lack posting account asset balance amount) =
    concat (codes "posting " ∷ decimal posting ∷ codes ": " ∷ account ∷ codes " has " ∷ signed_decimal balance ∷ codes " " ∷ asset ∷ codes ", needs " ∷ decimal amount ∷ [])
message_text (Below account asset balance) =
    concat (codes "revert: " ∷ account ∷ codes " would have " ∷ signed_decimal balance ∷ codes " " ∷ asset ∷ [])
message_text (Limit posting) = concat (codes "posting " ∷ decimal posting ∷ codes " passes the limit" ∷ [])
message_text (SumLimit asset) = concat (asset ∷ codes " passes the limit" ∷ [])
message_text (Used reference id) = concat (codes "reference " ∷ reference ∷ codes " is used by transaction " ∷ decimal id ∷ [])
message_text (Import line cause) = concat (codes "line " ∷ decimal line ∷ codes ": " ∷ cause_text cause ∷ [])
message_text NotBuilt = codes "not built"
message_text OutOfMemory = codes "out of memory"

-- the body of a refusal
abbrev pub refusal_text : Refusal → List ℕ
refusal_text r =
    concat (codes "{\"errorCode\":" ∷ quoted (code_of r) ∷ codes ",\"errorMessage\":" ∷ quoted (message_text r) ∷ codes "}" ∷ [])
