-- The matches of a listing.
use Rattle.std.specs.Prelude.{ℕ, ◌/◌, ◌%◌, Bool, false, cond, not, ◌&&◌, List, [], ◌∷◌, ◌++◌, length, drop, Some, None, Ok, Err, Option, Result, ◌==◌, nat_lt, codes}
use Rattle.std.specs.Fmt.{digits, decimal}
use Rattle.capped.specs.Values.{values}
use Rattle.records.specs.Fields.{tcmsg_of}
use Rattle.records.specs.declared.tcmsg.Tcmsg.{Tcmsg}
use Rattle.reader.specs.Visits.{then}
use Rattle.reader.specs.Names.{matching}
use Rattle.reader.specs.declared.fault.AttributeFault.{AttributeFault}
use Rattle.reader.specs.declared.fault.MessageFault.{MessageFault}
use Rattle.reader.specs.declared.fault.MessageFault.TheVariants.{Attribute}
use Rattle.reader.specs.declared.fault.TurnFault.{TurnFault}
use Rattle.reader.specs.declared.fault.TurnFault.TheVariants.{Message, FilterShort, NoFilter, SeveralFilters, TooManyMatches}
use Rattle.reader.specs.declared.matches.Match.{Match}
use Rattle.reader.specs.declared.matches.MatchTable.{MatchTable}
use Rattle.reader.specs.declared.echo.Echo.{Echo}
use Rattle.reader.specs.declared.echo.Echo.TheVariants.{Nothing, One, Several}

-- the matches that a table holds
abbrev pub matches_of : MatchTable → List Match
matches_of t = values t.rows

-- a match as text: its priority, and the two halves of its handle as `tc` writes them
abbrev pub match_text : Match → List ℕ
match_text m = codes "priority " ++ (decimal m.priority ++ (codes ", handle " ++ (digits 16 false (m.handle / 65536) ++ (codes ":" ++ digits 16 false (m.handle % 65536)))))

-- one more behind the others; a 65th is 27
abbrev pub pushed : List Match → Match → Result (List Match) TurnFault
pushed l m = cond (nat_lt (length l) 64) (Ok (l ++ m ∷ [])) (Err TooManyMatches)

-- the family header of a filter message: 23 where the payload is too short
abbrev pub head_of : List ℕ → Result Tcmsg TurnFault
head_of p = cond (nat_lt (length p) 20) (Err (FilterShort (length p))) (Ok (tcmsg_of p))

-- the filter that a family header names
abbrev pub match_of : Tcmsg → Match
match_of h = record { priority = h.info / 65536; handle = h.handle }

-- a filter that has the name is a match, unless its handle is 0: then it heads a priority
abbrev pub match_if : Tcmsg → Bool → Option Match
match_if h named = cond (named && not (h.handle == 0)) (Some (match_of h)) None

-- a fault below is carried up whole: an attribute's in a message's, and that in the turn's
abbrev pub raised : {A : Type 0} → Result A AttributeFault → Result A MessageFault
raised (Ok x) = Ok x
raised (Err f) = Err (Attribute f)

abbrev pub in_message : {A : Type 0} → Result A MessageFault → Result A TurnFault
in_message (Ok x) = Ok x
in_message (Err f) = Err (Message f)

-- the match in the payload of a filter message, if it is one
abbrev pub hit_of : List ℕ → List ℕ → Result (Option Match) TurnFault
hit_of name p = then (head_of p) (λ h. then (in_message (raised (matching name (drop 20 p)))) (λ named. Ok (match_if h named)))

-- a search: the name, and the matches so far
pub record Search : Type 0 where
  pub name : List ℕ
  pub matches : List Match

abbrev pub taking : Search → Option Match → Result Search TurnFault
taking s None = Ok s
taking s (Some m) = then (pushed s.matches m) (λ l. Ok (record { name = s.name; matches = l }))

abbrev pub searched : Search → List ℕ → Result Search TurnFault
searched s p = then (hit_of s.name p) (taking s)

-- the one filter message that attach and replace wait for
abbrev pub another : Echo → Match → Echo
another Nothing m = One m
another (One n) m = Several
another Several m = Several

abbrev pub echoed : Echo → List ℕ → Result Echo TurnFault
echoed e p = then (head_of p) (λ h. Ok (another e (match_of h)))

-- at the reply's end: none is 24, several are 25
abbrev pub echo : Echo → Result Match TurnFault
echo Nothing = Err NoFilter
echo (One m) = Ok m
echo Several = Err SeveralFilters

-- a turn that waits for an acknowledgement passes filter messages over
abbrev pub passed_over : Unit {0} → List ℕ → Result (Unit {0}) TurnFault
passed_over u p = Ok u
