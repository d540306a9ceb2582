-- What is read, from the equation with the reading of the bytes.
use Rattle.std.proofs.Common.{ℕ, List, Result, Ok, Err, IfOk, IfErr, subst}
use Rattle.lg_json.specs.Tree.{Tree, tree}
use Rattle.lg_json.specs.Grammar.{IsJson, Fits}
use Rattle.lg_json.specs.Reading.{reading}
use Rattle.lg_json.specs.View.{Gives}
use Rattle.lg_json.specs.declared.json.Json.{Json}
use Rattle.lg_json.specs.Fault.{IsFault, MayFail}
use Rattle.lg_json.specs.declared.json.JsonFault.{JsonFault}
use Rattle.lg_json.specs.declared.json.JsonFault.TheVariants.{Syntax, NotWhole, TooWide, TooDeep, Repeated, NoMemory}
use Rattle.lg_json.proofs.Faults.{reading_faults}
use Rattle.lg_json.proofs.Each.{each_fault}
use Rattle.lg_json.proofs.Sound.{reading_sound}
use Rattle.lg_json.proofs.Fit.{reading_fits}
use Rattle.lg_json.proofs.Whole.{json_value}

-- a value is that of the bytes, and fits
pub found_from : (bytes : List ℕ) (result : Result Json JsonFault) → Gives tree result (reading bytes) → IfOk result (λ v. IsJson (tree v) bytes × Fits 64 (tree v))
found_from bytes (Ok v) g = (subst (λ r. IfOk r (λ t. IsJson t bytes)) g (reading_sound bytes), subst (λ r. IfOk r (Fits 64)) g (reading_fits bytes))
found_from bytes (Err f) g = tt

-- a value of the bytes that fits is the answer
pub only_from : (bytes : List ℕ) (result : Result Json JsonFault) → Gives tree result (reading bytes) → (t : Tree) → IsJson t bytes → Fits 64 t → Gives tree result (Ok t)
only_from bytes result g t h fits = subst (Gives tree result) (json_value t bytes h fits) g

-- a fault is the first fault of the bytes
pub fault_from : (bytes : List ℕ) (result : Result Json JsonFault) → Gives tree result (reading bytes) → IfErr result (MayFail bytes)
fault_from bytes (Ok v) g = tt
fault_from bytes (Err (Syntax p)) g = subst (λ r. IfErr r (IsFault bytes)) g (reading_faults bytes)
fault_from bytes (Err (NotWhole p)) g = subst (λ r. IfErr r (IsFault bytes)) g (reading_faults bytes)
fault_from bytes (Err (TooWide p)) g = subst (λ r. IfErr r (IsFault bytes)) g (reading_faults bytes)
fault_from bytes (Err (TooDeep p)) g = subst (λ r. IfErr r (IsFault bytes)) g (reading_faults bytes)
fault_from bytes (Err (Repeated p)) g = subst (λ r. IfErr r (IsFault bytes)) g (reading_faults bytes)
fault_from bytes (Err NoMemory) g = tt

-- and where the bytes have one, it is the answer
pub each_from : (bytes : List ℕ) (result : Result Json JsonFault) → Gives tree result (reading bytes) → (f : JsonFault) → IsFault bytes f → Gives tree result (Err f)
each_from bytes result g f h = subst (Gives tree result) (each_fault bytes f h) g
