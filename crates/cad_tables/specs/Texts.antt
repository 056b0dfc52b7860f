-- The SQL of the register (SQLite, SQL As Understood By SQLite).
use Rattle.std.specs.Prelude.{List, ℕ, codes}

-- own profile: the table of the register itself
abbrev pub state_text : List ℕ
state_text = codes "CREATE TABLE state (one INTEGER PRIMARY KEY CHECK (one = 1), format INTEGER NOT NULL, revision INTEGER NOT NULL) STRICT"

-- own profile: the table of its lines
abbrev pub version_text : List ℕ
version_text = codes "CREATE TABLE version (object INTEGER NOT NULL, number INTEGER NOT NULL, class INTEGER NOT NULL, first INTEGER NOT NULL, last INTEGER, entered INTEGER NOT NULL, closed INTEGER, name TEXT, code TEXT, label TEXT, area INTEGER, unit INTEGER, party INTEGER, share_num INTEGER, share_den INTEGER, required INTEGER, spot_x INTEGER, spot_y INTEGER, shape BLOB, PRIMARY KEY (object, number)) STRICT"

-- adds a line
abbrev pub enter_text : List ℕ
enter_text = codes "INSERT INTO version VALUES (?1, ?2, ?3, ?4, ?5, ?6, ?7, ?8, ?9, ?10, ?11, ?12, ?13, ?14, ?15, ?16, ?17, ?18, ?19)"

-- format 1, revision 0
abbrev pub begin_text : List ℕ
begin_text = codes "INSERT INTO state VALUES (1, 1, 0)"

-- sets the revision
abbrev pub count_text : List ℕ
count_text = codes "UPDATE state SET revision = ?1 WHERE one = 1"

-- closes the open line of an object
abbrev pub close_text : List ℕ
close_text = codes "UPDATE version SET last = ?2, closed = ?3 WHERE object = ?1 AND last IS NULL"

-- the format and the revision
abbrev pub revision_text : List ℕ
revision_text = codes "SELECT format, revision FROM state WHERE one = 1"

-- what is known of the versions of one object
abbrev pub history_text : List ℕ
history_text = codes "SELECT number, class, first, last FROM version WHERE object = ?1 ORDER BY number"

-- the lines that were entered up to a revision, in no order that is asked for, so that none is held back to be sorted (SQLite, SELECT, section 4)
abbrev pub listing_text : List ℕ
listing_text = codes "SELECT object, number, class, first, last, entered, closed, name, code, label, area, unit, party, share_num, share_den, required, spot_x, spot_y, shape FROM version WHERE entered <= ?1"

-- the lines at the places behind one, up to another, in the order of their rowids (SQLite, SELECT, section 4; ROWIDs and the INTEGER PRIMARY KEY)
abbrev pub range_text : List ℕ
range_text = codes "SELECT object, number, class, first, last, entered, closed, name, code, label, area, unit, party, share_num, share_den, required, spot_x, spot_y, shape FROM version WHERE rowid > ?1 AND rowid <= ?2 ORDER BY rowid"
