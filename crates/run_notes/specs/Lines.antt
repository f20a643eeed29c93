-- The line of a run that never began, and that of code that was built.
use Rattle.std.specs.Prelude.{ℕ, ◌+◌, List, [], ◌∷◌, ◌++◌, length, take, count_by, codes, decimal, ◌==◌, not, reverse, take_while}
use Rattle.c_lex.specs.declared.refusal.Kind.{Kind}
use Rattle.c_lex.specs.declared.refusal.Kind.TheVariants as kinds
use Rattle.pin_checker.specs.declared.fault.Why.{Why}
use Rattle.pin_checker.specs.declared.fault.Why.TheVariants as reasons
use Rattle.run_notes.specs.declared.status.Status.{Status}
use Rattle.run_notes.specs.declared.status.Status.TheVariants as statuses

-- the line of a text that a place stands in, from 1; lines end at line feeds
abbrev pub line_at : List ℕ → ℕ → ℕ
line_at text place = count_by (λ byte. byte == 10) (take place text) + 1

-- where in its line a place stands, in bytes from 1: the bytes before it, back to a line feed
abbrev pub column_at : List ℕ → ℕ → ℕ
column_at text place = length (take_while (λ byte. not (byte == 10)) (reverse (take place text))) + 1

-- the name of a kind of refusal
abbrev pub kind_name : Kind → List ℕ
kind_name kinds.BadByte = codes "BadByte"
kind_name kinds.OpenLiteral = codes "OpenLiteral"
kind_name kinds.NumberTooWide = codes "NumberTooWide"
kind_name kinds.UnexpectedToken = codes "UnexpectedToken"
kind_name kinds.TooDeep = codes "TooDeep"
kind_name kinds.UnknownName = codes "UnknownName"
kind_name kinds.DoubleName = codes "DoubleName"
kind_name kinds.TypeMismatch = codes "TypeMismatch"
kind_name kinds.NotAnLvalue = codes "NotAnLvalue"
kind_name kinds.BadSize = codes "BadSize"
kind_name (kinds.OutsideSubset feature) = codes "OutsideSubset"
kind_name kinds.TooLong = codes "TooLong"
kind_name (kinds.TooMany count) = codes "TooMany"

-- the number of a kind of refusal, a blank before it, where it has one
abbrev pub kind_number : Kind → List ℕ
kind_number (kinds.OutsideSubset feature) = 32 ∷ decimal feature
kind_number (kinds.TooMany count) = 32 ∷ decimal count
kind_number _ = []

-- a place of a text: the name of its file, its line and its column
abbrev pub spot_text : (name text : List ℕ) → ℕ → List ℕ
spot_text name text place = name ++ codes ":" ++ decimal (line_at text place) ++ codes ":" ++ decimal (column_at text place)

-- and as the head of a line
abbrev pub place_text : (name text : List ℕ) → ℕ → List ℕ
place_text name text place = spot_text name text place ++ codes ": "

-- the line of a text that is refused, of the file with this name
abbrev pub refusal_line : (name text : List ℕ) → ℕ → Kind → List ℕ
refusal_line name text place kind = place_text name text place ++ codes "refused: " ++ kind_name kind ++ kind_number kind ++ codes "\n"

-- the name of a reason why code isn't safe for moves
abbrev pub why_name : Why → List ℕ
why_name reasons.BadTemp = codes "BadTemp"
why_name reasons.NoLook = codes "NoLook"
why_name reasons.StaleLook = codes "StaleLook"
why_name reasons.NotPinned = codes "NotPinned"

-- the line of code that was built, of so many bytes
abbrev pub built_line : ℕ → List ℕ
built_line bytes = codes "built: " ++ decimal bytes ++ codes " bytes\n"

-- the line of bytes that are no code file, of the file with this name: how many of them may begin one
abbrev pub bad_code_line : (name : List ℕ) → ℕ → List ℕ
bad_code_line name at = name ++ codes ": bad code at " ++ decimal at ++ codes "\n"

-- the line of code that isn't safe for moves, of the file with this name: the place that its node says, and the reason
abbrev pub unsafe_code_line : (name : List ℕ) → ℕ → Why → List ℕ
unsafe_code_line name place why = name ++ codes ": unsafe code at " ++ decimal place ++ codes ": " ++ why_name why ++ codes "\n"

-- the line of a status before any run, of the file with this name and this text; a run that ended has a report, a check and code that was built
-- have a line of their own, and a fault of writing has none
abbrev pub fault_line : (name text : List ℕ) → Status → List ℕ
fault_line name text statuses.Usage = codes "usage: alaska FILE [options]\n"
fault_line name text (statuses.Refused place kind) = refusal_line name text place kind
fault_line name text statuses.ReadFault = codes "alaska: can't read " ++ name ++ codes "\n"
fault_line name text statuses.NoMemory = codes "alaska: out of memory\n"
fault_line name text statuses.CodeTooDeep = codes "alaska: code too deep\n"
fault_line name text statuses.CodeTooLong = codes "alaska: code too long\n"
fault_line name text (statuses.BadCode at) = bad_code_line name at
fault_line name text (statuses.UnsafeCode place why) = unsafe_code_line name place why
fault_line name text statuses.FileTooLong = name ++ codes ": too long\n"
fault_line name text _ = []
