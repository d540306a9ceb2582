-- Worked examples of requests: what a method, a target and a body ask for.
use Rattle.std.specs.Prelude.{◌≡◌, ℕ, ℤ, List, [], ◌∷◌, Option, Some, None, codes}
use Rattle.std.specs.Fmt.{digits}
use Rattle.form_urlencoded.specs.Form.{split, raw_pairs}
use Rattle.percent_encoding.specs.Percent.{percent_decode}
use Rattle.lg_json.specs.Tree.{Tree}
use Rattle.lg_json.specs.Tree.Tree.{text, list, members}
use Rattle.lg_json.specs.Tree.Trees.{none, item}
use Rattle.lg_json.specs.Tree.Members.{no_member, member}
use Rattle.lg_types.specs.declared.calls.Call.{Call}
use Rattle.lg_types.specs.declared.calls.Call.TheVariants as call
use Rattle.lg_types.specs.declared.filters.ListKind.TheVariants as kind
use Rattle.lg_types.specs.declared.queries.Read.TheVariants as read
use Rattle.lg_types.specs.declared.refusals.Refusal.TheVariants.{NoRoute, Method, NoPostings, Script}
use Rattle.lg_readings.specs.FilterReadings.{one, FilterFault}
use Rattle.lg_readings.specs.Paths.{top}
use Rattle.lg_readings.specs.Requests.{Body, NoBody, ValueBody, IsRequest}

-- all that is unfolded where a request is computed
unfoldable pub computed : Unit {0}
unfolding percent_decode split raw_pairs digits
computed = tt

abbrev pub get : List ℕ
get = codes "GET"

abbrev pub post : List ℕ
post = codes "POST"

-- a path of no route, and a method that no route of the path has
abbrev pub NowhereAsked : Type 0
NowhereAsked = IsRequest get (codes "/v3") None NoBody (call.Unreadable NoRoute)

abbrev pub EmptyNameAsked : Type 0
EmptyNameAsked = IsRequest get (codes "/v2/") None NoBody (call.Unreadable NoRoute)

abbrev pub MethodAsked : Type 0
MethodAsked = IsRequest (codes "PUT") (codes "/v2/default") None NoBody (call.Unreadable Method)

-- a body without postings, and one with a script
abbrev pub no_postings : Tree
no_postings = one (codes "postings") (list none)

abbrev pub NoPostingsAsked : Type 0
NoPostingsAsked = IsRequest post (codes "/v2/default/transactions") None (ValueBody no_postings) (call.Unreadable NoPostings)

abbrev pub script : Tree
script = one (codes "script") (one (codes "plain") (text (codes "send")))

abbrev pub ScriptAsked : Type 0
ScriptAsked = IsRequest post (codes "/v2/default/transactions") None (ValueBody script) (call.Unreadable Script)

-- a segment is decoded before it is matched
abbrev pub StatsAsked : Type 0
StatsAsked = IsRequest get (codes "/v2/default/%73tats") None NoBody (call.Read (codes "default") read.Stats)

-- a filter of two members, and a list inside a list of filters that is none
abbrev pub TwoOperators : Type 0
TwoOperators = FilterFault kind.Accounts top (members (member (codes "$and") (list none) (member (codes "$or") (list none) no_member))) (Some (codes "body"))

abbrev pub NestedFault : Type 0
NestedFault = FilterFault kind.Logs top (one (codes "$and") (list (item (one (codes "$not") (members no_member)) (item (one (codes "$or") (text (codes "x"))) none)))) (Some (codes "$and[1].$or"))
