-- How offsets, counts and the packed table stand for the state of `Reading`, and what the answers for one item mean.
use Rattle.std.specs.Prelude.{◌≡◌, ◌≢◌, Bool, true, false, ◌&&◌, ◌||◌, List, [], ◌∷◌, ◌++◌, ℕ, ◌+◌, ◌-◌, ◌≤◌, ◌<◌, min, leb, eqb, length, take, drop, Result, Ok, Err, is_some}
use Rattle.format.specs.declared.header.Header.{Header}
use Rattle.format.specs.declared.error.Error.TheVariants.{InvalidUtf8, NotCanonical, TooManyEntries, TooManyRows}
use Rattle.format.specs.Choice.{pick}
use Rattle.format.specs.Limits.{max_rows, max_entries}
use Rattle.format.specs.Kind as Kind
use Rattle.format.specs.Code as Code
use Rattle.format.specs.Answer.{Answer, fail}
use Rattle.format.specs.Header.{is_long, is_negative_alias}
use Rattle.format.specs.Utf8.{bad_at}
use Rattle.format.specs.Names.{index}
use Rattle.format.specs.Place.{Place, ended}
use Rattle.format.specs.Reading.{Options, State, Found, items_of, content, form_of}
use Rattle.symbols.specs.Entries.{entries_of, part_of}
use Rattle.symbols.specs.Chains.{Chained}
use Rattle.items.specs.declared.item.Out.{Out}
use Rattle.items.specs.declared.item.Out.TheVariants as out
use Rattle.items.specs.declared.item.Refusal.{Refusal}
use Rattle.items.specs.declared.item.Refusal.TheVariants as refusal

-- ---- the symbol table

-- A table within its limit. Strict reading has chains too, and so no name twice.
pub record Fair (strict : Bool) (s es links : List ℕ) (names : ℕ) : Type 0 where
  pub few : names ≤ max_entries
  pub size : length es ≡ max_entries
  pub chained : strict ≡ true → Chained s s es links names

-- ---- one item

-- An offset, a count of entries and whether a key was read (1) stand for a state.
pub record Stands (s es : List ℕ) (at names keyed : ℕ) (a : State) : Type 0 where
  pub offset : a.at ≡ at
  pub key : a.place.keyed ≡ eqb keyed 1
  pub entries : a.entries ≡ entries_of s es names

-- From one offset on to another within the bytes, with a table.
pub record Moved (strict : Bool) (s es links : List ℕ) (at next names : ℕ) : Type 0 where
  pub on : at < next
  pub within : next ≤ length s
  pub fair : Fair strict s es links names

-- The offset at which a text, from one offset to another, stops being good.
unfoldable pub stop_in : List ℕ → ℕ → ℕ → ℕ
stop_in s i e = i + bad_at (take (e - i) (drop i s))

-- What the code needs of an answer.
abbrev pub Moves : Bool → List ℕ → List ℕ → List ℕ → ℕ → ℕ → ℕ → Result Out Refusal → Type 0
Moves strict s es links at names depth (Err (refusal.Error e)) = Unit
Moves strict s es links at names depth (Err (refusal.Text i e)) = (i ≤ e) × (e ≤ length s)
Moves strict s es links at names depth (Ok (out.Value u)) = Moved strict s es links at u names
Moves strict s es links at names depth (Ok (out.Key u)) = Moved strict s es links at u names
Moves strict s es links at names depth (Ok (out.NewSymbol u)) = Moved strict s es links at u (names + 1)
Moves strict s es links at names depth (Ok (out.NewKey u)) = Moved strict s es links at u (names + 1)
Moves strict s es links at names depth (Ok (out.Container n u)) = (0 < depth) × (0 < n.0) × Moved strict s es links at u names

-- The last rule: there is a row for the item.
unfoldable pub rowed : Options → State → State → Answer State
rowed o a next = pick (leb (min max_rows o.capacity) (length a.found)) (fail TooManyRows a.at) (Ok next)

abbrev pub spot : List ℕ → Bool → ℕ → Place
spot k b f = record { opened = k; keyed = b; fields = f }

-- All rules but the last pass: an answer is a state that offset and counts stand for, at a place, if there is a row for it.
pub record Goes (o : Options) (s es : List ℕ) (at names keyed : ℕ) (p : Place) (a : State) (r : Answer State) : Type 0 where
  pub next : State
  pub is : r ≡ rowed o a next
  pub stands : Stands s es at names keyed next
  pub place : next.place ≡ p
  pub row : length next.found ≡ length a.found + 1

abbrev pub Judged : Options → List ℕ → List ℕ → ℕ → State → Answer State → Result Out Refusal → Type 0
Judged o s es names a r (Err (refusal.Error e)) = r ≡ fail e a.at
Judged o s es names a r (Err (refusal.Text i e)) = r ≡ fail InvalidUtf8 (stop_in s i e)
Judged o s es names a r (Ok (out.Value u)) = Goes o s es u names 0 (ended a.place.opened a.place.fields) a r
Judged o s es names a r (Ok (out.Key u)) = Goes o s es u names 1 (spot a.place.opened true a.place.fields) a r
Judged o s es names a r (Ok (out.NewSymbol u)) = Goes o s es u (names + 1) 0 (ended a.place.opened a.place.fields) a r
Judged o s es names a r (Ok (out.NewKey u)) = Goes o s es u (names + 1) 1 (spot a.place.opened true a.place.fields) a r
Judged o s es names a r (Ok (out.Container n u)) = Goes o s es u names 0 (spot (n.0 ∷ a.place.opened) false a.place.fields) a r

-- ---- headers

-- A header at an offset that passed the first rule, and the offset after it.
pub record Case (s es : List ℕ) (at names keyed next : ℕ) (h : Header) (o : Options) (a : State) : Type 0 where
  pub short : o.strict && (is_long h || is_negative_alias h) ≡ false
  pub stands : Stands s es at names keyed a
  pub size : next ≡ at + h.size

-- A header of bytes or of a string.
pub record Body (h : Header) : Type 0 where
  pub kind : ℕ
  pub form : form_of h ≡ content kind
  pub low : kind < Kind.symbol
  pub plain : kind ≢ Kind.container
  pub text : leb Kind.string kind ≡ eqb h.code Code.string

-- A header of a symbol or a key in full.
pub record Name (h : Header) : Type 0 where
  pub form : form_of h ≡ content (h.code + Kind.bytes)
  pub high : Code.symbol ≤ h.code
  pub last : h.code ≤ Code.key

-- ---- a name in full

unfoldable pub fresh_of : ℕ → ℕ → Out
fresh_of kind next = pick (eqb kind Kind.key) (out.NewKey next) (out.NewSymbol next)

abbrev pub is_known : List ℕ → List ℕ → ℕ → Found → Bool
is_known s es names x = is_some (index x.item (items_of (entries_of s es names)))

-- What the table says of a name in full from one offset to another: strictly, it stands there already; there is no entry left; or it is in.
pub data Entered (strict : Bool) (s es es' links' : List ℕ) (names kind next e : ℕ) (r : Result Out Refusal) : Type 0 where
  known : strict && is_known s es names (part_of s kind next (e - next)) ≡ true → r ≡ Err (refusal.Error NotCanonical)
      → Entered strict s es es' links' names kind next e r
  full : strict && is_known s es names (part_of s kind next (e - next)) ≡ false → max_entries ≤ names
      → r ≡ Err (refusal.Error TooManyEntries) → Entered strict s es es' links' names kind next e r
  entered : strict && is_known s es names (part_of s kind next (e - next)) ≡ false → names < max_entries → r ≡ Ok (fresh_of kind e)
      → entries_of s es' (names + 1) ≡ entries_of s es names ++ (part_of s kind next (e - next) ∷ [])
      → Fair strict s es' links' (names + 1) → Entered strict s es es' links' names kind next e r
