-- The names of lines, which are their first words.
use Rattle.std.specs.Prelude.{ℕ, Option, Some, None, List, codes, if◌then◌else◌}
use Rattle.std.specs.Str.{bytes_eq}
use Rattle.vac_lines.specs.declared.names.LineName.{LineName}
use Rattle.vac_lines.specs.declared.names.LineName.TheVariants.{Add, Del, NewCustomer, DropCustomer, Free, Price, Bill, Reserve, Cancel, Audit, Trip, Leave, Update}

-- the line that a first word names, if it is none of the first eight names
abbrev pub last_name : List ℕ → Option LineName
last_name word =
    if bytes_eq word (codes "cancel") then Some Cancel
    else if bytes_eq word (codes "audit") then Some Audit
    else if bytes_eq word (codes "trip") then Some Trip
    else if bytes_eq word (codes "leave") then Some Leave
    else if bytes_eq word (codes "update") then Some Update
    else None

-- the line that a first word names, if it is none of the first four names
abbrev pub later_name : List ℕ → Option LineName
later_name word =
    if bytes_eq word (codes "free") then Some Free
    else if bytes_eq word (codes "price") then Some Price
    else if bytes_eq word (codes "bill") then Some Bill
    else if bytes_eq word (codes "reserve") then Some Reserve
    else last_name word

-- the line that a first word names, if it names one
abbrev pub line_name : List ℕ → Option LineName
line_name word =
    if bytes_eq word (codes "add") then Some Add
    else if bytes_eq word (codes "del") then Some Del
    else if bytes_eq word (codes "newcust") then Some NewCustomer
    else if bytes_eq word (codes "dropcust") then Some DropCustomer
    else later_name word
