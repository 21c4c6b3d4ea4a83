-- The signal catalogue: a line for each of the 199 signals of tables 2 to 13 and 15 to 19 of QC/T 1201.5-2023.
-- A line reads: number, bits, resolution and offset in thousandths of the printed unit, lowest and highest raw count,
-- and up to three marks, each with its first and last code. Its comment is the signal's English name with its unit, where it has one,
-- after a comma; docs/SIGNALS.md has the words of its codes. The numbers are those that are printed, but for the offset of 705 and 706:
-- the printed 1 is a misprint, and there is none (document 02, P2). Assumes nothing.
use Rattle.std.specs.Prelude.{List, [], ◌∷◌, ℕ, ℤ, pos, neg_ℤ}
use Rattle.rows.specs.declared.Mark.{Mark}
use Rattle.rows.specs.declared.MarkKind.{MarkKind}
use Rattle.rows.specs.declared.MarkKind.TheVariants.{Unmarked, Invalid, Absent, Error, Reserved}
use Rattle.rows.specs.declared.Row.{Row}

-- ---- the words of a line

abbrev pub plus : ℕ → ℤ
plus n = pos n

abbrev pub minus : ℕ → ℤ
minus n = neg_ℤ (pos n)

-- the kinds of marks
abbrev pub unmarked_kind : MarkKind
unmarked_kind = Unmarked

abbrev pub invalid_kind : MarkKind
invalid_kind = Invalid

abbrev pub absent_kind : MarkKind
absent_kind = Absent

abbrev pub error_kind : MarkKind
error_kind = Error

abbrev pub reserved_kind : MarkKind
reserved_kind = Reserved

-- every kind that a mark may be of
abbrev pub mark_kinds : List MarkKind
mark_kinds = invalid_kind ∷ absent_kind ∷ error_kind ∷ reserved_kind ∷ []

abbrev pub mark : MarkKind → ℕ → ℕ → Mark
mark kind first last = record { kind = kind; first = first; last = last }

abbrev pub invalid : ℕ → ℕ → Mark
invalid first last = mark invalid_kind first last

abbrev pub absent : ℕ → ℕ → Mark
absent first last = mark absent_kind first last

abbrev pub error : ℕ → ℕ → Mark
error first last = mark error_kind first last

abbrev pub reserved : ℕ → ℕ → Mark
reserved first last = mark reserved_kind first last

-- no mark: an interval with no code in it
abbrev pub unmarked : Mark
unmarked = mark unmarked_kind 1 0

abbrev pub row : ℕ → ℕ → ℕ → ℤ → ℕ → ℕ → Mark → Mark → Mark → Row
row number bits resolution offset lowest highest mark1 mark2 mark3 =
    record {
      number = number;
      bits = bits;
      resolution = resolution;
      offset = offset;
      lowest = lowest;
      highest = highest;
      mark1 = mark1;
      mark2 = mark2;
      mark3 = mark3;
    }

-- the row of no signal, which stands past the table's end
abbrev pub blank : Row
blank = row 0 0 0 (plus 0) 0 0 unmarked unmarked unmarked

-- ---- the table

unfoldable pub rows : List Row
rows =
    row 201 16 100 (plus 0) 0 65535 (invalid 65535 65535) unmarked unmarked  -- battery voltage inside the main positive relay, V
    ∷ row 202 16 100 (plus 0) 0 65535 (invalid 65535 65535) unmarked unmarked  -- bus voltage outside the main positive relay, V
    ∷ row 203 16 100 (minus 2000000) 0 65535 (invalid 65535 65535) unmarked unmarked  -- pack current, A
    ∷ row 204 8 400 (plus 0) 0 250 (invalid 255 255) unmarked unmarked  -- state of charge, %
    ∷ row 205 8 400 (plus 0) 0 250 (invalid 255 255) unmarked unmarked  -- state of health, %
    ∷ row 206 2 1000 (plus 0) 0 3 unmarked unmarked unmarked  -- working state
    ∷ row 207 16 1000 (plus 0) 0 60000 (invalid 65535 65535) unmarked unmarked  -- insulation of the positive pole, kohm
    ∷ row 208 16 1000 (plus 0) 0 60000 (invalid 65535 65535) unmarked unmarked  -- insulation of the negative pole, kohm
    ∷ row 209 16 100 (plus 0) 0 65535 (invalid 65535 65535) unmarked unmarked  -- battery voltage outside the main positive relay, V
    ∷ row 210 16 100 (plus 0) 0 65535 (invalid 65535 65535) unmarked unmarked  -- battery voltage outside the main negative relay, V
    ∷ row 301 2 1000 (plus 0) 0 3 (reserved 0 0) (invalid 3 3) unmarked  -- main positive relay
    ∷ row 302 2 1000 (plus 0) 0 3 (reserved 0 0) (invalid 3 3) unmarked  -- main negative relay
    ∷ row 303 2 1000 (plus 0) 0 3 (reserved 0 0) (invalid 3 3) unmarked  -- precharge relay
    ∷ row 304 2 1000 (plus 0) 0 3 (reserved 0 0) (invalid 3 3) unmarked  -- charge positive relay 1
    ∷ row 305 2 1000 (plus 0) 0 3 (reserved 0 0) (invalid 3 3) unmarked  -- charge positive relay 2
    ∷ row 306 2 1000 (plus 0) 0 3 (reserved 0 0) (invalid 3 3) unmarked  -- charge negative relay 1
    ∷ row 307 2 1000 (plus 0) 0 3 (reserved 0 0) (invalid 3 3) unmarked  -- charge negative relay 2
    ∷ row 308 2 1000 (plus 0) 0 3 (reserved 0 0) (invalid 3 3) unmarked  -- heating positive relay
    ∷ row 309 2 1000 (plus 0) 0 3 (reserved 0 0) (invalid 3 3) unmarked  -- heating negative relay
    ∷ row 310 1 1000 (plus 0) 0 1 unmarked unmarked unmarked  -- main positive relay cannot close
    ∷ row 311 1 1000 (plus 0) 0 1 unmarked unmarked unmarked  -- main positive relay welded
    ∷ row 312 1 1000 (plus 0) 0 1 unmarked unmarked unmarked  -- main negative relay cannot close
    ∷ row 313 1 1000 (plus 0) 0 1 unmarked unmarked unmarked  -- main negative relay welded
    ∷ row 314 1 1000 (plus 0) 0 1 unmarked unmarked unmarked  -- precharge relay cannot close
    ∷ row 315 1 1000 (plus 0) 0 1 unmarked unmarked unmarked  -- precharge relay welded
    ∷ row 316 1 1000 (plus 0) 0 1 unmarked unmarked unmarked  -- charge positive relay 1 cannot close
    ∷ row 317 1 1000 (plus 0) 0 1 unmarked unmarked unmarked  -- charge positive relay 1 welded
    ∷ row 318 1 1000 (plus 0) 0 1 unmarked unmarked unmarked  -- charge positive relay 2 cannot close
    ∷ row 319 1 1000 (plus 0) 0 1 unmarked unmarked unmarked  -- charge positive relay 2 welded
    ∷ row 320 1 1000 (plus 0) 0 1 unmarked unmarked unmarked  -- charge negative relay 1 cannot close
    ∷ row 321 1 1000 (plus 0) 0 1 unmarked unmarked unmarked  -- charge negative relay 1 welded
    ∷ row 322 1 1000 (plus 0) 0 1 unmarked unmarked unmarked  -- charge negative relay 2 cannot close
    ∷ row 323 1 1000 (plus 0) 0 1 unmarked unmarked unmarked  -- charge negative relay 2 welded
    ∷ row 324 1 1000 (plus 0) 0 1 unmarked unmarked unmarked  -- heating positive relay cannot close
    ∷ row 325 1 1000 (plus 0) 0 1 unmarked unmarked unmarked  -- heating positive relay welded
    ∷ row 326 1 1000 (plus 0) 0 1 unmarked unmarked unmarked  -- heating negative relay cannot close
    ∷ row 327 1 1000 (plus 0) 0 1 unmarked unmarked unmarked  -- heating negative relay welded
    ∷ row 328 1 1000 (plus 0) 0 1 unmarked unmarked unmarked  -- heating film or BTMS relay cannot close
    ∷ row 329 1 1000 (plus 0) 0 1 unmarked unmarked unmarked  -- heating film or BTMS relay cannot open
    ∷ row 401 32 1000 (plus 0) 0 4294967295 unmarked unmarked unmarked  -- energy discharged in all, kWh
    ∷ row 402 32 1000 (plus 0) 0 4294967295 unmarked unmarked unmarked  -- energy charged in all, kWh
    ∷ row 403 16 100 (plus 0) 0 65535 unmarked unmarked unmarked  -- energy of this charge by plug, kWh
    ∷ row 404 32 1000 (plus 0) 0 4294967295 unmarked unmarked unmarked  -- energy charged by plug in all, kWh
    ∷ row 405 32 1000 (plus 0) 0 4294967295 unmarked unmarked unmarked  -- energy recovered in all, kWh
    ∷ row 406 32 1000 (plus 0) 0 4294967295 unmarked unmarked unmarked  -- energy charged at swap stations in all, kWh
    ∷ row 407 16 100 (plus 0) 0 65535 unmarked unmarked unmarked  -- energy of this discharge, kWh
    ∷ row 408 16 100 (plus 0) 0 65535 unmarked unmarked unmarked  -- energy recovered by braking this time, kWh
    ∷ row 501 2 1000 (plus 0) 0 3 (reserved 0 0) unmarked unmarked  -- locking pin
    ∷ row 502 2 1000 (plus 0) 0 3 (reserved 2 3) unmarked unmarked  -- swap connection
    ∷ row 503 4 1000 (plus 0) 0 15 unmarked unmarked unmarked  -- message checksum
    ∷ row 504 4 1000 (plus 0) 0 15 unmarked unmarked unmarked  -- message counter
    ∷ row 505 8 1000 (minus 40000) 0 250 (absent 253 253) (invalid 255 255) unmarked  -- driving swap connector, terminal DC1+, deg C
    ∷ row 506 8 1000 (minus 40000) 0 250 (absent 253 253) (invalid 255 255) unmarked  -- driving swap connector, terminal DC1-, deg C
    ∷ row 507 8 1000 (minus 40000) 0 250 (absent 253 253) (invalid 255 255) unmarked  -- driving swap connector, terminal DC2+, deg C
    ∷ row 508 8 1000 (minus 40000) 0 250 (absent 253 253) (invalid 255 255) unmarked  -- driving swap connector, terminal DC2-, deg C
    ∷ row 509 8 1000 (minus 40000) 0 250 (absent 253 253) (invalid 255 255) unmarked  -- charging swap connector, terminal DC1+, deg C
    ∷ row 510 8 1000 (minus 40000) 0 250 (absent 253 253) (invalid 255 255) unmarked  -- charging swap connector, terminal DC1-, deg C
    ∷ row 511 8 1000 (minus 40000) 0 250 (absent 253 253) (invalid 255 255) unmarked  -- charging swap connector, terminal DC2+, deg C
    ∷ row 512 8 1000 (minus 40000) 0 250 (absent 253 253) (invalid 255 255) unmarked  -- charging swap connector, terminal DC2-, deg C
    ∷ row 513 16 1000 (plus 0) 0 65535 (invalid 65535 65535) unmarked unmarked  -- charges outside stations
    ∷ row 514 32 1000 (plus 0) 0 4294967295 unmarked unmarked unmarked  -- charge taken outside stations, Ah
    ∷ row 515 16 1000 (plus 0) 0 65535 (invalid 65535 65535) unmarked unmarked  -- swaps
    ∷ row 601 8 1000 (plus 0) 1 255 unmarked unmarked unmarked  -- cell voltages: frame number
    ∷ row 602 8 1000 (plus 0) 1 255 unmarked unmarked unmarked  -- cell voltages: CSC number
    ∷ row 603 16 1 (plus 0) 0 65535 (invalid 65535 65535) unmarked unmarked  -- cell voltage V1, V
    ∷ row 604 16 1 (plus 0) 0 65535 (invalid 65535 65535) unmarked unmarked  -- cell voltage V2, V
    ∷ row 605 16 1 (plus 0) 0 65535 (invalid 65535 65535) unmarked unmarked  -- cell voltage V3, V
    ∷ row 701 16 1 (plus 0) 0 65535 (invalid 65535 65535) unmarked unmarked  -- lowest cell voltage, V
    ∷ row 702 8 1000 (plus 0) 1 255 unmarked unmarked unmarked  -- lowest cell voltage: cell number in its CSC
    ∷ row 703 8 1000 (plus 0) 1 255 unmarked unmarked unmarked  -- lowest cell voltage: CSC number
    ∷ row 704 16 1 (plus 0) 0 65535 (invalid 65535 65535) unmarked unmarked  -- highest cell voltage, V
    ∷ row 705 8 1000 (plus 0) 1 255 unmarked unmarked unmarked  -- highest cell voltage: CSC number
    ∷ row 706 8 1000 (plus 0) 1 255 unmarked unmarked unmarked  -- highest cell voltage: cell number in its CSC
    ∷ row 707 8 100 (plus 0) 0 50 unmarked unmarked unmarked  -- cell platform voltage, V
    ∷ row 708 8 100 (plus 0) 0 50 unmarked unmarked unmarked  -- lowest usable cell voltage, V
    ∷ row 709 8 100 (plus 0) 0 50 unmarked unmarked unmarked  -- highest usable cell voltage, V
    ∷ row 710 16 1 (plus 0) 0 65535 unmarked unmarked unmarked  -- mean cell voltage, V
    ∷ row 801 8 1000 (plus 0) 1 255 unmarked unmarked unmarked  -- cell temperatures: frame number
    ∷ row 802 8 1000 (plus 0) 1 255 unmarked unmarked unmarked  -- cell temperatures: CSC number
    ∷ row 803 8 1000 (minus 40000) 0 250 (invalid 255 255) unmarked unmarked  -- temperature probe 1, deg C
    ∷ row 804 8 1000 (minus 40000) 0 250 (invalid 255 255) unmarked unmarked  -- temperature probe 2, deg C
    ∷ row 805 8 1000 (minus 40000) 0 250 (invalid 255 255) unmarked unmarked  -- temperature probe 3, deg C
    ∷ row 806 8 1000 (minus 40000) 0 250 (invalid 255 255) unmarked unmarked  -- temperature probe 4, deg C
    ∷ row 807 8 1000 (minus 40000) 0 250 (invalid 255 255) unmarked unmarked  -- temperature probe 5, deg C
    ∷ row 808 8 1000 (minus 40000) 0 250 (invalid 255 255) unmarked unmarked  -- temperature probe 6, deg C
    ∷ row 901 8 1000 (minus 40000) 0 250 (invalid 255 255) unmarked unmarked  -- highest cell temperature, deg C
    ∷ row 902 8 1000 (minus 40000) 0 250 (invalid 255 255) unmarked unmarked  -- lowest cell temperature, deg C
    ∷ row 903 8 1000 (minus 40000) 0 250 (invalid 255 255) unmarked unmarked  -- mean cell temperature, deg C
    ∷ row 904 8 1000 (plus 0) 1 255 unmarked unmarked unmarked  -- highest cell temperature: CSC number
    ∷ row 905 8 1000 (plus 0) 1 255 unmarked unmarked unmarked  -- highest cell temperature: probe number in its CSC
    ∷ row 906 8 1000 (plus 0) 1 255 unmarked unmarked unmarked  -- lowest cell temperature: CSC number
    ∷ row 907 8 1000 (plus 0) 1 255 unmarked unmarked unmarked  -- lowest cell temperature: probe number in its CSC
    ∷ row 1001 8 1000 (plus 0) 1 255 unmarked unmarked unmarked  -- CSCs in the system
    ∷ row 1002 16 1000 (plus 0) 1 65535 unmarked unmarked unmarked  -- cells in the pack
    ∷ row 1003 16 1000 (plus 0) 1 65535 unmarked unmarked unmarked  -- temperature probes in the pack
    ∷ row 1101 16 1000 (plus 0) 0 65535 (invalid 65535 65535) unmarked unmarked  -- rated capacity, Ah
    ∷ row 1102 16 100 (plus 0) 0 65535 (invalid 65535 65535) unmarked unmarked  -- rated voltage, V
    ∷ row 1103 16 100 (plus 0) 0 65535 (invalid 65535 65535) unmarked unmarked  -- rated energy, kWh
    ∷ row 1104 2 1000 (plus 0) 0 3 unmarked unmarked unmarked  -- cooling
    ∷ row 1105 4 1000 (plus 0) 0 15 (reserved 10 13) (reserved 15 15) unmarked  -- battery type
    ∷ row 1201 8 1000 (plus 0) 0 255 unmarked unmarked unmarked  -- battery maker
    ∷ row 1202 8 1000 (plus 0) 0 255 unmarked unmarked unmarked  -- length of the battery code
    ∷ row 1203 8 1000 (plus 0) 0 255 unmarked unmarked unmarked  -- battery code, character 1
    ∷ row 1204 8 1000 (plus 0) 0 255 unmarked unmarked unmarked  -- battery code, character 2
    ∷ row 1205 8 1000 (plus 0) 0 255 unmarked unmarked unmarked  -- battery code, character 3
    ∷ row 1206 8 1000 (plus 0) 0 255 unmarked unmarked unmarked  -- battery code, character 4
    ∷ row 1207 8 1000 (plus 0) 0 255 unmarked unmarked unmarked  -- battery code, character 5
    ∷ row 1208 8 1000 (plus 0) 0 255 unmarked unmarked unmarked  -- battery code, character 6
    ∷ row 1209 8 1000 (plus 0) 0 255 unmarked unmarked unmarked  -- battery code, character 7
    ∷ row 1210 8 1000 (plus 0) 0 255 unmarked unmarked unmarked  -- battery code, character 8
    ∷ row 1211 8 1000 (plus 0) 0 255 unmarked unmarked unmarked  -- battery code, character 9
    ∷ row 1212 8 1000 (plus 0) 0 255 unmarked unmarked unmarked  -- battery code, character 10
    ∷ row 1213 8 1000 (plus 0) 0 255 unmarked unmarked unmarked  -- battery code, character 11
    ∷ row 1214 8 1000 (plus 0) 0 255 unmarked unmarked unmarked  -- battery code, character 12
    ∷ row 1215 8 1000 (plus 0) 0 255 unmarked unmarked unmarked  -- battery code, character 13
    ∷ row 1216 8 1000 (plus 0) 0 255 unmarked unmarked unmarked  -- battery code, character 14
    ∷ row 1217 8 1000 (plus 0) 0 255 unmarked unmarked unmarked  -- battery code, character 15
    ∷ row 1218 8 1000 (plus 0) 0 255 unmarked unmarked unmarked  -- battery code, character 16
    ∷ row 1219 8 1000 (plus 0) 0 255 unmarked unmarked unmarked  -- battery code, character 17
    ∷ row 1220 8 1000 (plus 0) 0 255 unmarked unmarked unmarked  -- battery code, character 18
    ∷ row 1221 8 1000 (plus 0) 0 255 unmarked unmarked unmarked  -- battery code, character 19
    ∷ row 1222 8 1000 (plus 0) 0 255 unmarked unmarked unmarked  -- battery code, character 20
    ∷ row 1223 8 1000 (plus 0) 0 255 unmarked unmarked unmarked  -- battery code, character 21
    ∷ row 1224 8 1000 (plus 0) 0 255 unmarked unmarked unmarked  -- battery code, character 22
    ∷ row 1225 8 1000 (plus 0) 0 255 unmarked unmarked unmarked  -- battery code, character 23
    ∷ row 1226 8 1000 (plus 0) 0 255 unmarked unmarked unmarked  -- battery code, character 24
    ∷ row 1301 8 1000 (plus 0) 0 254 (invalid 255 255) unmarked unmarked  -- software version R
    ∷ row 1302 8 1000 (plus 0) 0 254 (invalid 255 255) unmarked unmarked  -- software test version B
    ∷ row 1303 8 1000 (plus 0) 0 254 (invalid 255 255) unmarked unmarked  -- hardware version V
    ∷ row 1304 8 1000 (plus 0) 0 254 (invalid 255 255) unmarked unmarked  -- hardware test version B
    ∷ row 1305 8 1000 (plus 1985000) 0 250 unmarked unmarked unmarked  -- software built, year
    ∷ row 1306 8 250 (plus 0) 0 48 unmarked unmarked unmarked  -- software built, month
    ∷ row 1307 8 250 (plus 0) 0 124 unmarked unmarked unmarked  -- software built, day
    ∷ row 1501 8 1000 (plus 0) 0 255 unmarked unmarked unmarked  -- ECU source address
    ∷ row 1502 1 1000 (plus 0) 0 1 unmarked unmarked unmarked  -- repeat message request
    ∷ row 1503 1 1000 (plus 0) 0 1 unmarked unmarked unmarked  -- active wakeup
    ∷ row 1504 1 1000 (plus 0) 0 1 unmarked unmarked unmarked  -- network management state
    ∷ row 1505 8 1000 (plus 0) 0 255 unmarked unmarked unmarked  -- wakeup reason
    ∷ row 1506 32 1000 (plus 0) 0 4294967295 unmarked unmarked unmarked  -- reasons to stay awake, a field of flags
    ∷ row 1601 2 1000 (plus 0) 0 3 unmarked unmarked unmarked  -- high voltage command
    ∷ row 1602 1 1000 (plus 0) 0 1 unmarked unmarked unmarked  -- low voltage off request
    ∷ row 1603 2 1000 (plus 0) 0 3 (reserved 2 2) (invalid 3 3) unmarked  -- low voltage off allowed
    ∷ row 1604 2 1000 (plus 0) 0 3 (reserved 2 2) (invalid 3 3) unmarked  -- emergency high voltage off request
    ∷ row 1605 2 1000 (plus 0) 0 3 (reserved 2 2) (invalid 3 3) unmarked  -- self-check
    ∷ row 1606 2 1000 (plus 0) 0 3 (reserved 0 0) (invalid 3 3) unmarked  -- high voltage off request
    ∷ row 1701 16 100 (plus 0) 0 65535 unmarked unmarked unmarked  -- highest allowed recovery current, pulse, A
    ∷ row 1702 16 100 (plus 0) 0 65535 unmarked unmarked unmarked  -- highest allowed discharge current, pulse, A
    ∷ row 1703 16 100 (plus 0) 0 65535 unmarked unmarked unmarked  -- allowed lasting recovery current, A
    ∷ row 1704 16 100 (plus 0) 0 65535 unmarked unmarked unmarked  -- allowed lasting discharge current, A
    ∷ row 1705 3 1000 (plus 0) 0 7 (invalid 2 7) unmarked unmarked  -- pulse time
    ∷ row 1706 2 1000 (plus 0) 0 3 (reserved 0 0) unmarked unmarked  -- charge mode
    ∷ row 1707 3 1000 (plus 0) 0 7 (reserved 4 7) unmarked unmarked  -- charge state
    ∷ row 1708 3 1000 (plus 0) 0 7 (reserved 4 7) unmarked unmarked  -- charge plug
    ∷ row 1709 2 1000 (plus 0) 0 3 (reserved 2 3) unmarked unmarked  -- charging allowed
    ∷ row 1710 8 1000 (minus 40000) 0 250 (absent 253 253) (error 254 254) (invalid 255 255)  -- charge port 1 negative, deg C
    ∷ row 1711 8 1000 (minus 40000) 0 250 (absent 253 253) (error 254 254) (invalid 255 255)  -- charge port 1 positive, deg C
    ∷ row 1712 8 1000 (minus 40000) 0 250 (absent 253 253) (error 254 254) (invalid 255 255)  -- charge port 2 negative, deg C
    ∷ row 1713 8 1000 (minus 40000) 0 250 (absent 253 253) (error 254 254) (invalid 255 255)  -- charge port 2 positive, deg C
    ∷ row 1801 2 1000 (plus 0) 0 3 unmarked unmarked unmarked  -- thermal mode asked
    ∷ row 1802 2 1000 (plus 0) 0 3 (invalid 2 3) unmarked unmarked  -- high voltage request
    ∷ row 1803 2 1000 (plus 0) 0 3 (invalid 2 3) unmarked unmarked  -- charging or not
    ∷ row 1804 2 1000 (plus 0) 0 3 (invalid 2 3) unmarked unmarked  -- water cooling relay
    ∷ row 1805 8 1000 (minus 40000) 0 250 (invalid 255 255) unmarked unmarked  -- target temperature, deg C
    ∷ row 1806 16 1000 (plus 0) 0 1000 (invalid 65535 65535) unmarked unmarked  -- present voltage, V
    ∷ row 1807 2 1000 (plus 0) 0 3 (error 2 2) (invalid 3 3) unmarked  -- liquid level
    ∷ row 1808 2 1000 (plus 0) 0 3 unmarked unmarked unmarked  -- BTMS mode
    ∷ row 1809 2 1000 (plus 0) 0 3 (invalid 2 3) unmarked unmarked  -- BTMS relay
    ∷ row 1810 8 1000 (minus 40000) 0 250 (invalid 255 255) unmarked unmarked  -- water temperature to the battery, deg C
    ∷ row 1811 8 1000 (minus 40000) 0 250 (invalid 255 255) unmarked unmarked  -- water temperature from the battery, deg C
    ∷ row 1812 16 100 (plus 0) 0 10000 unmarked unmarked unmarked  -- power wanted, kW
    ∷ row 1813 6 1000 (plus 0) 0 63 unmarked unmarked unmarked  -- BTMS fault code
    ∷ row 1814 2 1000 (plus 0) 0 3 unmarked unmarked unmarked  -- BTMS fault level
    ∷ row 1901 2 1000 (plus 0) 0 3 unmarked unmarked unmarked  -- highest alarm level
    ∷ row 1902 2 1000 (plus 0) 0 3 unmarked unmarked unmarked  -- pack overvoltage, level
    ∷ row 1903 2 1000 (plus 0) 0 3 unmarked unmarked unmarked  -- pack undervoltage, level
    ∷ row 1904 2 1000 (plus 0) 0 3 unmarked unmarked unmarked  -- cell temperature difference, level
    ∷ row 1905 2 1000 (plus 0) 0 3 unmarked unmarked unmarked  -- cell temperature high, level
    ∷ row 1906 2 1000 (plus 0) 0 3 unmarked unmarked unmarked  -- state of charge low, level
    ∷ row 1907 2 1000 (plus 0) 0 3 unmarked unmarked unmarked  -- cell overvoltage, level
    ∷ row 1908 2 1000 (plus 0) 0 3 unmarked unmarked unmarked  -- cell undervoltage, level
    ∷ row 1909 2 1000 (plus 0) 0 3 unmarked unmarked unmarked  -- insulation, level
    ∷ row 1910 2 1000 (plus 0) 0 3 unmarked unmarked unmarked  -- cell voltage difference, level
    ∷ row 1911 2 1000 (plus 0) 0 3 unmarked unmarked unmarked  -- charge current high, level
    ∷ row 1912 2 1000 (plus 0) 0 3 unmarked unmarked unmarked  -- discharge current high, level
    ∷ row 1913 2 1000 (plus 0) 0 3 unmarked unmarked unmarked  -- cell temperature low, level
    ∷ row 1914 2 1000 (plus 0) 0 3 unmarked unmarked unmarked  -- BMS hardware, level
    ∷ row 1915 1 1000 (plus 0) 0 1 unmarked unmarked unmarked  -- state of charge high
    ∷ row 1916 1 1000 (plus 0) 0 1 unmarked unmarked unmarked  -- state of charge jumped
    ∷ row 1917 1 1000 (plus 0) 0 1 unmarked unmarked unmarked  -- BMS internal communication
    ∷ row 1918 1 1000 (plus 0) 0 1 unmarked unmarked unmarked  -- pack does not match
    ∷ row 1919 1 1000 (plus 0) 0 1 unmarked unmarked unmarked  -- high voltage interlock
    ∷ row 1920 1 1000 (plus 0) 0 1 unmarked unmarked unmarked  -- smoke
    ∷ row 1921 1 1000 (plus 0) 0 1 unmarked unmarked unmarked  -- fire
    ∷ row 1922 1 1000 (plus 0) 0 1 unmarked unmarked unmarked  -- balance state (not a fault)
    ∷ row 1923 5 1000 (plus 0) 0 31 unmarked unmarked unmarked  -- count of GB/T 32960.3 faults
    ∷ row 1924 1 1000 (plus 0) 0 1 unmarked unmarked unmarked  -- thermal management
    ∷ row 1925 2 1000 (plus 0) 0 3 unmarked unmarked unmarked  -- branch voltage difference, level
    ∷ row 1926 1 1000 (plus 0) 0 1 unmarked unmarked unmarked  -- pack self-protection
    ∷ row 1927 1 1000 (plus 0) 0 1 unmarked unmarked unmarked  -- BMS 24 V supply
    ∷ []
