-- Fields in a container or at the top: the places on the way through them, and what the recursive reader's answers mean.
use Rattle.std.specs.Prelude.{◌≡◌, Bool, true, false, List, ℕ, ◌+◌, ◌-◌, ◌≤◌, ◌<◌, min, eqb, length, drop, Ok, Err}
use Rattle.format.specs.Limits.{max_rows, max_depth}
use Rattle.format.specs.declared.error.Error.TheVariants.{InvalidUtf8}
use Rattle.format.specs.Answer.{Answer, fail}
use Rattle.format.specs.Place.{Place, ended}
use Rattle.format.specs.Reading.{Options, State, run}
use Rattle.reader.specs.declared.fields.Cursor.{Cursor}
use Rattle.reader.specs.declared.fields.Step.{Step}
use Rattle.reader.specs.declared.fields.Step.TheVariants as step
use Rattle.items.specs.Judging.{Fair, Stands, spot, stop_in}

-- The places on the way through n fields, by how many are left and whether a key was read. d more containers may be opened.
pub record Lane (Q : ℕ → Bool → Place) (d n : ℕ) : Type 0 where
  pub deep : (left : ℕ) (b : Bool) → 0 < left → left ≤ n → length (Q left b).opened + d ≡ max_depth
  pub value : (left : ℕ) (b : Bool) → 0 < left → left ≤ n → ended (Q left b).opened (Q left b).fields ≡ Q (left - 1) false
  pub key : (left : ℕ) (b : Bool) → 0 < left → left ≤ n → spot (Q left b).opened true (Q left b).fields ≡ Q left true

-- The answer for a text, from one offset to another, that is not UTF-8.
abbrev pub bad_text_in : List ℕ → ℕ → ℕ → Answer Step
bad_text_in s i e = fail InvalidUtf8 (stop_in s i e)

-- What the code needs of an answer. Each field takes at least a byte.
abbrev pub Went : Bool → List ℕ → List ℕ → List ℕ → ℕ → ℕ → Answer Step → Type 0
Went strict s es links from n (Err f) = Unit
Went strict s es links from n (Ok (step.End left u)) = Fair strict s es links u.names × (length s ≤ u.at) × (0 < left) × (left ≤ n)
Went strict s es links from n (Ok (step.Good u)) = Fair strict s es links u.names × (n + from ≤ u.at) × (u.at ≤ length s) × (u.keyed ≡ 0)

-- The run from a goes on from a state that a cursor stands for, at a place.
pub record Leads (o : Options) (s es : List ℕ) (u : Cursor) (p : Place) (a : State) : Type 0 where
  pub next : State
  pub is : run o a 0 (drop a.at s) ≡ run o next 0 (drop next.at s)
  pub stands : Stands s es u.at u.names u.keyed next
  pub row : length next.found + u.rows ≡ min max_rows o.capacity
  pub place : next.place ≡ p

abbrev pub Resumes : Options → List ℕ → List ℕ → (ℕ → Bool → Place) → State → Answer Step → Type 0
Resumes o s es Q a (Err f) = run o a 0 (drop a.at s) ≡ Err f
Resumes o s es Q a (Ok (step.End left u)) = Leads o s es u (Q left (eqb u.keyed 1)) a
Resumes o s es Q a (Ok (step.Good u)) = Leads o s es u (Q 0 false) a
