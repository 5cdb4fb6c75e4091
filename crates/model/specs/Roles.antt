-- What differs by kind and by answer, said once: which calls go through a phase, and whose an answer is. All else goes by
-- role, by class, or by the phase alone.
use Rattle.std.specs.Prelude.{Bool, true, false, not}
use Rattle.model.specs.Types.{Kind, Idle, Put, Get, Scan, Phase, Walk, Read, Seek, Lock, Check, Update, Make, Link, Release, Follow, Role, Searching, Reading, Writing, Releasing, Following, Answer, TooOld, VersionsFull, Added, KeysFull, New, Found, None, Swept, Class, Inserted, OtherPut, Hit, Miss, Scanned, Version}
use Rattle.model.specs.Numbers.{no_version}

-- ---- kinds and phases

abbrev pub is_idle : Kind → Bool
is_idle Idle = true
is_idle Put = false
is_idle Get = false
is_idle Scan = false

abbrev pub is_put : Kind → Bool
is_put Idle = false
is_put Put = true
is_put Get = false
is_put Scan = false

abbrev pub is_get : Kind → Bool
is_get Idle = false
is_get Put = false
is_get Get = true
is_get Scan = false

abbrev pub is_scan : Kind → Bool
is_scan Idle = false
is_scan Put = false
is_scan Get = false
is_scan Scan = true

abbrev pub role_of : Phase → Role
role_of Walk = Searching
role_of Read = Reading
role_of Seek = Writing
role_of Lock = Writing
role_of Check = Writing
role_of Update = Writing
role_of Make = Writing
role_of Link = Writing
role_of Release = Releasing
role_of Follow = Following

-- the calls that go through a phase: "a get outside walk and read, a put in read" is refused; P1: "A sweep outside its walk and
-- this following, or another call in the following, is 11."
abbrev pub plays : Kind → Role → Bool
plays k Searching = not (is_idle k)
plays k Reading = is_get k
plays k Writing = is_put k
plays k Releasing = is_put k
plays k Following = is_scan k

-- ---- answers

abbrev pub class_of : Answer → Class
class_of TooOld = OtherPut
class_of VersionsFull = OtherPut
class_of Added = OtherPut
class_of KeysFull = OtherPut
class_of New = Inserted
class_of Found = Hit
class_of None = Miss
class_of Swept = Scanned

-- the answers that a put gives
abbrev pub put_class : Class → Bool
put_class Inserted = true
put_class OtherPut = true
put_class Hit = false
put_class Miss = false
put_class Scanned = false

abbrev pub new_class : Class → Bool
new_class Inserted = true
new_class OtherPut = false
new_class Hit = false
new_class Miss = false
new_class Scanned = false

-- "value, stamp (the call's own for a put; 0 and 0 for none)"; with found go those of the newest version; P1: "with answer
-- 'swept', value 0 and stamp 0"
abbrev pub class_version : Class → (own newest : Version) → Version
class_version Inserted own newest = own
class_version OtherPut own newest = own
class_version Hit own newest = newest
class_version Miss own newest = no_version
class_version Scanned own newest = no_version

abbrev pub from_put : Answer → Bool
from_put a = put_class (class_of a)

abbrev pub is_new : Answer → Bool
is_new a = new_class (class_of a)

abbrev pub version_with : Answer → (own newest : Version) → Version
version_with a own newest = class_version (class_of a) own newest
