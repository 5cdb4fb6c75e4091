-- The sequential map: document 01's plain ledger.
use Rattle.std.specs.Prelude.{ℕ, zero, suc, ◌+◌, List, [], ◌∷◌, ◌++◌, eqb, ltb, leb, length}
use Rattle.model.specs.Types.{Answer, TooOld, VersionsFull, Added, KeysFull, New, Found, None, Swept, Version, Looking, NoKey, NoVersion, Ok, Err}
use Rattle.std.specs.Prelude.{if◌then◌else◌}
use Rattle.model.specs.Numbers.{no_version}
use Rattle.model.specs.Requests.{Operation, put, get, scan}

-- "Its state: for each tray a list of (value, stamp), newest first"
pub record Entry : Type 0 where
  pub key : ℕ
  pub versions : List Version

-- the entries in the order of their making
abbrev pub Map : Type 0
Map = List Entry

-- the list of a key; no version where it has none
unfoldable pub versions_of : Map → ℕ → List Version
versions_of [] k = []
versions_of (e ∷ es) k = if eqb e.key k then e.versions else versions_of es k

-- the versions held, of all keys together
unfoldable pub held : Map → ℕ
held [] = 0
held (e ∷ es) = length e.versions + held es

-- "the reading goes in front" of the key's list
unfoldable pub pushed : Map → ℕ → Version → Map
pushed [] k v = []
pushed (e ∷ es) k v =
    if eqb e.key k
    then record { key = e.key; versions = v ∷ e.versions } ∷ es
    else e ∷ pushed es k v

pub record PutResult : Type 0 where
  pub map : Map
  pub answer : Answer

abbrev pub answered : Map → Answer → PutResult
answered b a = record { map = b; answer = a }

-- The limits K and V are K and W here: `V` is a word of the language.
-- "Put: where the tray has a list and the stamp is below the newest stamp, too old; else where V readings are held,
-- readings full; else the reading goes in front, added. Where the tray has no list: K trays held, trays full; else
-- V readings held, readings full; else a list of one, new."
unfoldable pub put_by : (K W : ℕ) → Map → ℕ → Version → List Version → PutResult
put_by K W b k v (latest ∷ older) =
    if ltb v.timestamp latest.timestamp then answered b TooOld
    else if leb W (held b) then answered b VersionsFull
    else answered (pushed b k v) Added
put_by K W b k v [] =
    if leb K (length b) then answered b KeysFull
    else if leb W (held b) then answered b VersionsFull
    else answered (b ++ (record { key = k; versions = v ∷ [] } ∷ [])) New

unfoldable pub put_in : (K W : ℕ) → Map → ℕ → Version → PutResult
put_in K W b k v = put_by K W b k v (versions_of b k)

-- an answer with its version
pub record Reply : Type 0 where
  pub answer : Answer
  pub version : Version

-- "Get: found with the newest value and stamp, or none."
unfoldable pub get_by : List Version → Reply
get_by [] = record { answer = None; version = no_version }
get_by (latest ∷ older) = record { answer = Found; version = latest }

unfoldable pub get_from : Map → ℕ → Reply
get_from b k = get_by (versions_of b k)

-- what an operation makes of the map, and its reply
pub record Applied : Type 0 where
  pub map : Map
  pub reply : Reply

-- "With a put's answer go its own value and stamp, with none 0 and 0."
unfoldable pub applied : (K W : ℕ) → Map → Operation → Applied
applied K W b (put k v t draw) =
    let own : Version = record { value = v; timestamp = t } in
    let o = put_in K W b k own in
    record { map = o.map; reply = record { answer = o.answer; version = own } }
applied K W b (get k) = record { map = b; reply = get_from b k }
-- P1's sweep takes no effect, so that the map is never fed one
applied K W b (scan first last) = record { map = b; reply = record { answer = Swept; version = no_version } }

-- "it answers value and stamp of the reading asked, 0 back being the newest, or for a lawful tray 12 where there is no
-- list and 13 where the list is too short"
unfoldable pub back_in : List Version → ℕ → Looking
back_in [] back = Err NoVersion
back_in (v ∷ older) zero = Ok v
back_in (v ∷ older) (suc back) = back_in older back

unfoldable pub look_list : List Version → ℕ → Looking
look_list [] back = Err NoKey
look_list (v ∷ older) back = back_in (v ∷ older) back

unfoldable pub look_in : Map → ℕ → ℕ → Looking
look_in b k back = look_list (versions_of b k) back
