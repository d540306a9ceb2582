-- What the reader's state and answers stand for.
use Rattle.std.specs.Prelude.{◌≡◌, ℕ, Bool, true, false, List, ◌∷◌, Option, Some, None, map, reverse, Result, Ok, Err}
use Rattle.lg_json.specs.Tree.{Entry, tree, entry}
use Rattle.lg_json.specs.declared.json.Json.{Json}
use Rattle.lg_json.specs.declared.json.Member.{Member}
use Rattle.lg_json.specs.Reading as machine
use Rattle.lg_json.specs.declared.json.JsonFault.{JsonFault}
use Rattle.lg_json.specs.declared.json.JsonFault.TheVariants.{Syntax, NotWhole, TooWide, TooDeep, Repeated, NoMemory}
use Rattle.lg_json.specs.declared.state.Frame.{Frame}
use Rattle.lg_json.specs.declared.state.Next.{Next}
use Rattle.lg_json.specs.declared.state.TextMode.{TextMode}

-- an object's members, and the name whose value is to come
abbrev pub object_view : List Member → Option (List ℕ) → machine.Frame
object_view ms None = machine.Frame.in_object (map entry ms)
object_view ms (Some name) = machine.Frame.named (map entry ms) name

abbrev pub frame_view : Frame → machine.Frame
frame_view (Frame.List items) = machine.Frame.in_list (map tree items)
frame_view (Frame.Object o) = object_view o.0 o.1

-- what is open, the innermost first; the reader keeps it last
abbrev pub frames_view : List Frame → List machine.Frame
frames_view fs = reverse (map frame_view fs)

abbrev pub next_view : Next → machine.Mode
next_view Next.Value = machine.Mode.before_value
next_view Next.First = machine.Mode.before_first
next_view Next.FirstName = machine.Mode.before_first_name
next_view Next.Name = machine.Mode.before_name
next_view Next.Colon = machine.Mode.before_colon
next_view Next.Comma = machine.Mode.after_item
next_view (Next.End value) = machine.Mode.ended (tree value)

abbrev pub standing : List Frame → Next → machine.State
standing fs n = machine.at (frames_view fs) (next_view n)

-- the answer is this fault, or want of memory, of which nothing is said
abbrev pub Fails : {A : Type 0} → JsonFault → Result A JsonFault → Type 0
Fails (Syntax p) r = r ≡ Err (Syntax p)
Fails (NotWhole p) r = r ≡ Err (NotWhole p)
Fails (TooWide p) r = r ≡ Err (TooWide p)
Fails (TooDeep p) r = r ≡ Err (TooDeep p)
Fails (Repeated p) r = r ≡ Err (Repeated p)
Fails NoMemory r = Unit {0}

-- a call's result is r, seen by `seen`, or want of memory
abbrev pub Gives : {A B : Type 0} → (A → B) → Result A JsonFault → Result B JsonFault → Type 0
Gives seen (Ok x) r = r ≡ Ok (seen x)
Gives seen (Err f) r = Fails f r

-- a text and the mode after it, where there is one
abbrev pub with_text : List ℕ → Option TextMode → Option machine.TextState
with_text t None = None
with_text t (Some m) = Some (t, m)

abbrev pub entries_view : List Member → List Entry
entries_view ms = map entry ms

-- what comes after a comma in what is open, where one may come
abbrev pub AfterComma : List machine.Frame → Option Next → Type 0
AfterComma fs None = (i : ℕ) → machine.follow_on i fs 44 ≡ Err (Syntax i)
AfterComma fs (Some n) = (i : ℕ) → machine.follow_on i fs 44 ≡ Ok (machine.at fs (next_view n))

-- the value of what the byte closes, where it closes it
abbrev pub IsClosed : machine.Frame → ℕ → Option Json → Type 0
IsClosed f b None = (i : ℕ) (fs : List machine.Frame) → machine.follow_on i (f ∷ fs) b ≡ Err (Syntax i)
IsClosed f b (Some v) = (i : ℕ) (fs : List machine.Frame) → machine.follow_on i (f ∷ fs) b ≡ Ok (machine.complete fs (tree v))

-- an open object after a name: whether it is new
abbrev pub IsNamed : List Member → List ℕ → List Member × Option (List ℕ) → Bool → Type 0
IsNamed ms name object true = (machine.has_name name (entries_view ms) ≡ false) × (object ≡ (ms, Some name))
IsNamed ms name object false = machine.has_name name (entries_view ms) ≡ true

-- an open object after a value
abbrev pub IsCompleted : List Member × Option (List ℕ) → Json → List Member × Option (List ℕ) → Type 0
IsCompleted before value after = object_view after.0 after.1 ≡ machine.with_value (object_view before.0 before.1) (tree value)

-- what comes next, with a place
abbrev pub placed : Result Next JsonFault → ℕ → Result (Next × ℕ) JsonFault
placed (Ok n) p = Ok (n, p)
placed (Err f) p = Err f
