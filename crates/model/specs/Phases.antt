-- Document 01, "Steps of a station": one step is one line, given as what it asks of the process (a move) and the memory
-- that it leaves. All of a step's refusal 11 is here: a move `Refuse` leaves the memory as it was.
use Rattle.std.specs.Prelude.{ℕ, ◌+◌, ◌-◌, Bool, true, false, not, ◌&&◌, ◌||◌, List, eqb, ltb, leb, length, get_or}
use Rattle.model.specs.Types.{Kind, Idle, Put, Get, Scan, Phase, Walk, Read, Seek, Lock, Check, Update, Make, Link, Release, Follow, Role, Searching, Reading, Writing, Releasing, Following, Answer, TooOld, VersionsFull, Added, KeysFull, New, Found, None, Swept, Call, Cursor, Effect, Process, Version, Ahead, Unused, Less, Equal, Past, Move, Refuse, Wait, Go, Note, Commit, Show, End}
use Rattle.std.specs.Prelude.{if◌then◌else◌}
use Rattle.model.specs.Layout.{Memory, node_words, version_words, top_level, capacity, key, newest, next, lock, timestamp, version_at, with_newest, with_next, with_lock, with_node, with_version}
use Rattle.model.specs.Numbers.{no_version}
use Rattle.model.specs.Roles.{is_put, role_of, plays, from_put, is_new, version_with}

pub record Moved : Type 0 where
  pub move : Move
  pub memory : Memory

abbrev pub moved : Memory → Move → Moved
moved m v = record { move = v; memory = m }

abbrev pub refuses : Move → Bool
refuses Refuse = true
refuses Wait = false
refuses (Go c) = false
refuses (Note c) = false
refuses (Commit c a) = false
refuses (Show c x) = false
refuses (End a v t) = false

-- the cursor in another phase, level and predecessor
abbrev pub at : Cursor → Phase → (level pred : ℕ) → Cursor
at c phase level pred = record { phase = phase; level = level; pred = pred; made = c.made }

-- "A finishing step answers kind, answer, value, stamp (the call's own for a put; 0 and 0 for none)"
abbrev pub own_version : Call → Version
own_version call = record { value = call.value; timestamp = call.timestamp }

abbrev pub ended : Call → Answer → (newest : Version) → (tick : ℕ) → Move
ended call a v tick = End a (version_with a (own_version call) v) tick

-- ---- what is in use

-- "and, when needed, a top above 5, a node or reading number not in use that this step reads from, writes to, follows,
-- compares or takes up as p (a link that make or link only copies is not tested, nor the unused node and place that make
-- and update fill), a new node or newest reading numbered 0, or a previous place not smaller"
-- a node in use other than the head: what update's link leads to, and link's new node
abbrev pub used_node : Memory → ℕ → Bool
used_node m x = leb 1 x && leb x m.counts.nodes

abbrev pub used_version : Memory → ℕ → Bool
used_version m i = leb 1 i && leb i m.counts.versions

abbrev pub max_nodes : Memory → ℕ
max_nodes m = capacity node_words (length m.nodes)

abbrev pub max_versions : Memory → ℕ
max_versions m = capacity version_words (length m.versions)

-- "Link 0 means the end, above every tray number."
-- "Below, 'before' means: p's link at L is not the end and leads to a smaller tray number."
unfoldable pub ahead : Memory → (level pred key : ℕ) → Ahead
ahead m l p k =
    let y = next m.nodes l p in
    if eqb y 0 then Past
    else if ltb m.counts.nodes y then Unused
    else if ltb (key m.nodes y) k then Less y
    else if eqb (key m.nodes y) k then Equal y
    else Past

abbrev pub ahead_of : Call → Cursor → Memory → Ahead
ahead_of call c m = ahead m c.level c.pred call.key

-- ---- walk and read

-- "At level 0 a put goes to seek; a get whose link leads to its tray takes that node as p and goes to read, any other
-- get takes effect and finishes with none." `found` is the node that has the key, or 0.
unfoldable pub walked : Kind → Call → Cursor → (tick found : ℕ) → Move
walked Idle call c tick found = Refuse
walked Put call c tick found = Note (at c Seek c.level c.pred)
walked Get call c tick found =
    if eqb found 0 then ended call None no_version tick
    else Note (at c Read c.level found)
-- P1: "It walks as a get does to the first, but the walk's last step leaves p before the first and shows nothing."
walked Scan call c tick found = Note (at c Follow c.level c.pred)

-- "Else remember p at L; above level 0, L falls by one."
unfoldable pub descend : Call → Cursor → (tick found : ℕ) → Move
descend call c tick found =
    if eqb c.level 0 then walked call.kind call c tick found
    else Note (at c Walk (c.level - 1) c.pred)

-- "Walk (start: L 5, p 0): before: p moves along the link."
unfoldable pub walk_by : Call → Cursor → (tick : ℕ) → Ahead → Move
walk_by call c tick Unused = Refuse
walk_by call c tick (Less y) = Go (at c Walk c.level y)
walk_by call c tick (Equal y) = descend call c tick y
walk_by call c tick Past = descend call c tick 0

unfoldable pub walk_of : Call → Cursor → (tick : ℕ) → Memory → Move
walk_of call c tick m = walk_by call c tick (ahead_of call c m)

-- "Read: take effect on p's newest reading, finish with found."
unfoldable pub read_of : Call → Cursor → (tick : ℕ) → Memory → Move
read_of call c tick m =
    let i = newest m.nodes c.pred in
    if used_version m i then ended call Found (version_at m.versions i) tick
    else Refuse

-- ---- follow: P1, "Then it follows level 0, one link a step"

-- "each step that meets a tray of the span moves p there and shows its number and newest reading"
unfoldable pub show_at : Cursor → (node : ℕ) → Memory → Move
show_at c y m =
    let i = newest m.nodes y in
    if used_version m i
    then Show (at c Follow c.level y) (record { key = key m.nodes y; version = version_at m.versions i })
    else Refuse

-- "finishes, with answer 'swept', value 0 and stamp 0. The sweep's effect tick is 0"
abbrev pub swept : Call → Move
swept call = ended call Swept no_version 0

-- "a tray past the last (looked at first)"; "A step that meets a tray below the first, made since the walk, moves p there and shows
-- nothing."
unfoldable pub follow_at : Call → Cursor → (node : ℕ) → Memory → Move
follow_at call c y m =
    if ltb call.last (key m.nodes y) then swept call
    else if ltb (key m.nodes y) call.key then Go (at c Follow c.level y)
    else show_at c y m

-- "The step that meets the end or a tray past the last [..] finishes": the link of level 0, whatever the level
unfoldable pub follow_of : Call → Cursor → Memory → Move
follow_of call c m =
    let y = next m.nodes 0 c.pred in
    if eqb y 0 then swept call
    else if ltb m.counts.nodes y then Refuse
    else follow_at call c y m

-- ---- seek, lock and check

-- "Seek: before: p moves along. Else go to lock."
unfoldable pub seek_by : Cursor → Ahead → Move
seek_by c Unused = Refuse
seek_by c (Less y) = Go (at c Seek c.level y)
seek_by c (Equal y) = Go (at c Lock c.level c.pred)
seek_by c Past = Go (at c Lock c.level c.pred)

unfoldable pub seek_of : Call → Cursor → Memory → Move
seek_of call c m = seek_by c (ahead_of call c m)

-- "A lock is 0 when free, else the holder's station number plus 1."
abbrev pub with_holder : Memory → Cursor → (holder : ℕ) → Memory
with_holder m c holder = record { nodes = with_lock m.nodes c.level c.pred holder; versions = m.versions; counts = m.counts }

-- "Lock: free: take it, go to check. Held: the step answers 'wait' and changes only the event count."
unfoldable pub lock_of : Cursor → (holder : ℕ) → Memory → Moved
lock_of c holder m =
    if eqb (lock m.nodes c.level c.pred) 0
    then moved (with_holder m c holder) (Go (at c Check c.level c.pred))
    else moved m Wait

-- "Else at level 0 go to update if the link leads to the tray, otherwise to make. Above level 0 go to link."
abbrev pub checked : Cursor → Phase → Move
checked c bottom = Go (at c (if eqb c.level 0 then bottom else Link) c.level c.pred)

-- "Check: before: free the lock, p moves along, go to seek."
unfoldable pub check_by : Cursor → Memory → Ahead → Moved
check_by c m Unused = moved m Refuse
check_by c m (Less y) = moved (with_holder m c 0) (Go (at c Seek c.level y))
check_by c m (Equal y) = moved m (checked c Update)
check_by c m Past = moved m (checked c Make)

unfoldable pub check_of : Call → Cursor → Memory → Moved
check_of call c m = check_by c m (ahead_of call c m)

-- ---- update and make: "take effect as the ledger's put"; "Go to release."

abbrev pub committed : Cursor → (made : ℕ) → Answer → Move
committed c made a = Commit (record { phase = Release; level = c.level; pred = c.pred; made = made }) a

-- the call's version in front of node x's
unfoldable pub add_version : Call → ℕ → Memory → Memory
add_version call x m =
    let i = m.counts.versions + 1 in
    record {
      nodes = with_newest m.nodes x i;
      versions = with_version m.versions i (own_version call) (newest m.nodes x);
      counts = record { nodes = m.counts.nodes; versions = i };
    }

-- "Update and make: take effect as the ledger's put": on node x, whose newest version is i
unfoldable pub update_node : Call → Cursor → ℕ → (newest : ℕ) → Memory → Moved
update_node call c x i m =
    if ltb call.timestamp (timestamp m.versions i) then moved m (committed c c.made TooOld)
    else if leb (max_versions m) m.counts.versions then moved m (committed c c.made VersionsFull)
    else moved (add_version call x m) (committed c c.made Added)

unfoldable pub update_at : Call → Cursor → ℕ → Memory → Moved
update_at call c x m =
    if not (used_node m x) then moved m Refuse
    else if not (used_version m (newest m.nodes x)) then moved m Refuse
    else update_node call c x (newest m.nodes x) m

-- "update does so on the node that p's level 0 link leads to, p staying"
unfoldable pub update_of : Call → Cursor → Memory → Moved
update_of call c m = update_at call c (next m.nodes 0 c.pred) m

-- "in the order of making: node 1, 2 and so on"; "Places are given out in rising order and never taken back."; "Its link at level 0 is the one p had, [..] and its
-- reading's previous place is 0."
unfoldable pub add_node : Call → Cursor → Memory → Memory
add_node call c m =
    let x = m.counts.nodes + 1 in
    let i = m.counts.versions + 1 in
    record {
      nodes = with_next (with_node m.nodes x call.key i call.top (next m.nodes 0 c.pred)) 0 c.pred x;
      versions = with_version m.versions i (own_version call) 0;
      counts = record { nodes = x; versions = i };
    }

-- "make links the new node behind p at level 0"
unfoldable pub make_of : Call → Cursor → Memory → Moved
make_of call c m =
    if leb (max_nodes m) m.counts.nodes then moved m (committed c c.made KeysFull)
    else if leb (max_versions m) m.counts.versions then moved m (committed c c.made VersionsFull)
    else if ltb top_level call.top then moved m Refuse
    else moved (add_node call c m) (committed c (m.counts.nodes + 1) New)

-- ---- link and release

unfoldable pub add_link : Cursor → Memory → Memory
add_link c m = record {
  nodes = with_next (with_next m.nodes c.level c.made (next m.nodes c.level c.pred)) c.level c.pred c.made;
  versions = m.versions;
  counts = m.counts;
}

-- "Link: the new node takes p's link at L; p's link becomes the new node. Go to release."
unfoldable pub link_of : Cursor → Memory → Moved
link_of c m =
    if used_node m c.made then moved (add_link c m) (Go (at c Release c.level c.pred))
    else moved m Refuse

-- "A put that was new and has L below its top: L rises by one, p becomes the node remembered there, go to seek."
unfoldable pub rise : Call → Cursor → (preds : List ℕ) → Memory → (otherwise : Move) → Move
rise call c preds m otherwise =
    if ltb top_level call.top then Refuse
    else if leb call.top c.level then otherwise
    else if ltb m.counts.nodes (get_or preds (c.level + 1) 0) then Refuse
    else Go (at c Seek (c.level + 1) (get_or preds (c.level + 1) 0))

-- "Else finish with the answer and effect tick kept."
unfoldable pub released : Call → Cursor → Effect → (preds : List ℕ) → Memory → Move
released call c e preds m =
    if is_new e.answer then rise call c preds m (ended call e.answer no_version e.tick)
    else ended call e.answer no_version e.tick

-- "Release: free the lock."
unfoldable pub freed : Cursor → Memory → Move → Moved
freed c m v = moved (if refuses v then m else with_holder m c 0) v

unfoldable pub release_of : Call → Cursor → Effect → (preds : List ℕ) → Memory → Moved
release_of call c e preds m = freed c m (released call c e preds m)

-- ---- refusal 11 "at any step", and the phase

abbrev pub no_effect : Effect → Bool
no_effect e = eqb e.tick 0

-- "a get outside walk and read, a put in read" (`plays`), "a call other than a put with an effect tick, a put at release or with
-- an effect tick whose answer no put gives"
abbrev pub lawful_effect : Kind → Role → Effect → Bool
lawful_effect k Searching e = no_effect e || (is_put k && from_put e.answer)
lawful_effect k Reading e = no_effect e
lawful_effect k Writing e = no_effect e || from_put e.answer
lawful_effect k Releasing e = from_put e.answer
lawful_effect k Following e = no_effect e

unfoldable pub lawful_at : Kind → Role → Effect → Bool
lawful_at k role e = plays k role && lawful_effect k role e

-- "11 at any step a level above 5, p not in use"
unfoldable pub lawful_process : Process → Memory → Bool
lawful_process p m =
    leb p.cursor.level top_level && leb p.cursor.pred m.counts.nodes
    && lawful_at p.call.kind (role_of p.cursor.phase) p.effect

unfoldable pub phase_of : Phase → (holder tick : ℕ) → Process → Memory → Moved
phase_of Walk holder tick p m = moved m (walk_of p.call p.cursor tick m)
phase_of Read holder tick p m = moved m (read_of p.call p.cursor tick m)
phase_of Seek holder tick p m = moved m (seek_of p.call p.cursor m)
phase_of Lock holder tick p m = lock_of p.cursor holder m
phase_of Check holder tick p m = check_of p.call p.cursor m
phase_of Update holder tick p m = update_of p.call p.cursor m
phase_of Make holder tick p m = make_of p.call p.cursor m
phase_of Link holder tick p m = link_of p.cursor m
phase_of Release holder tick p m = release_of p.call p.cursor p.effect p.preds m
phase_of Follow holder tick p m = moved m (follow_of p.call p.cursor m)

-- one step of one call: `holder` is the process's number plus 1, `tick` that of this event
unfoldable pub transition_of : (holder tick : ℕ) → Process → Memory → Moved
transition_of holder tick p m =
    if lawful_process p m then phase_of p.cursor.phase holder tick p m
    else moved m Refuse
