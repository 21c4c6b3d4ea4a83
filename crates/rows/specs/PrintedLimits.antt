-- The limits that document 001 prints for each signal, lowest and highest, in thousandths of the printed unit. The 0~5 of 707, 708 and
-- 709 is taken as volts; 1301 to 1304 are excepted. tools/printed_limits.py writes this file from the printed tables. Assumes nothing.
use Rattle.std.specs.Prelude.{List, [], ◌∷◌, ℕ, ℤ}
use Rattle.rows.specs.Rows.{plus, minus}

pub record PrintedLimits : Type 0 where
  pub number : ℕ
  pub lowest : ℤ
  pub highest : ℤ

abbrev pub prints : ℕ → ℤ → ℤ → PrintedLimits
prints number lowest highest = record { number = number; lowest = lowest; highest = highest }

-- ---- the list, table by table

unfoldable pub printed_limits : List PrintedLimits
printed_limits =
    prints 201 (plus 0) (plus 6553500) ∷ prints 202 (plus 0) (plus 6553500) ∷ prints 203 (minus 2000000) (plus 4553500) ∷ prints 204 (plus 0) (plus 100000)
    ∷ prints 205 (plus 0) (plus 100000) ∷ prints 206 (plus 0) (plus 3000) ∷ prints 207 (plus 0) (plus 60000000) ∷ prints 208 (plus 0) (plus 60000000)
    ∷ prints 209 (plus 0) (plus 6553500) ∷ prints 210 (plus 0) (plus 6553500)
    ∷ prints 301 (plus 0) (plus 3000) ∷ prints 302 (plus 0) (plus 3000) ∷ prints 303 (plus 0) (plus 3000) ∷ prints 304 (plus 0) (plus 3000)
    ∷ prints 305 (plus 0) (plus 3000) ∷ prints 306 (plus 0) (plus 3000) ∷ prints 307 (plus 0) (plus 3000) ∷ prints 308 (plus 0) (plus 3000)
    ∷ prints 309 (plus 0) (plus 3000) ∷ prints 310 (plus 0) (plus 1000) ∷ prints 311 (plus 0) (plus 1000) ∷ prints 312 (plus 0) (plus 1000)
    ∷ prints 313 (plus 0) (plus 1000) ∷ prints 314 (plus 0) (plus 1000) ∷ prints 315 (plus 0) (plus 1000) ∷ prints 316 (plus 0) (plus 1000)
    ∷ prints 317 (plus 0) (plus 1000) ∷ prints 318 (plus 0) (plus 1000) ∷ prints 319 (plus 0) (plus 1000) ∷ prints 320 (plus 0) (plus 1000)
    ∷ prints 321 (plus 0) (plus 1000) ∷ prints 322 (plus 0) (plus 1000) ∷ prints 323 (plus 0) (plus 1000) ∷ prints 324 (plus 0) (plus 1000)
    ∷ prints 325 (plus 0) (plus 1000) ∷ prints 326 (plus 0) (plus 1000) ∷ prints 327 (plus 0) (plus 1000) ∷ prints 328 (plus 0) (plus 1000)
    ∷ prints 329 (plus 0) (plus 1000)
    ∷ prints 401 (plus 0) (plus 4294967295000) ∷ prints 402 (plus 0) (plus 4294967295000) ∷ prints 403 (plus 0) (plus 6553500) ∷ prints 404 (plus 0) (plus 4294967295000)
    ∷ prints 405 (plus 0) (plus 4294967295000) ∷ prints 406 (plus 0) (plus 4294967295000) ∷ prints 407 (plus 0) (plus 6553500) ∷ prints 408 (plus 0) (plus 6553500)
    ∷ prints 501 (plus 0) (plus 3000) ∷ prints 502 (plus 0) (plus 3000) ∷ prints 503 (plus 0) (plus 15000) ∷ prints 504 (plus 0) (plus 15000)
    ∷ prints 505 (minus 40000) (plus 210000) ∷ prints 506 (minus 40000) (plus 210000) ∷ prints 507 (minus 40000) (plus 210000) ∷ prints 508 (minus 40000) (plus 210000)
    ∷ prints 509 (minus 40000) (plus 210000) ∷ prints 510 (minus 40000) (plus 210000) ∷ prints 511 (minus 40000) (plus 210000) ∷ prints 512 (minus 40000) (plus 210000)
    ∷ prints 513 (plus 0) (plus 65535000) ∷ prints 514 (plus 0) (plus 4294967295000) ∷ prints 515 (plus 0) (plus 65535000)
    ∷ prints 601 (plus 1000) (plus 255000) ∷ prints 602 (plus 1000) (plus 255000) ∷ prints 603 (plus 0) (plus 65535) ∷ prints 604 (plus 0) (plus 65535)
    ∷ prints 605 (plus 0) (plus 65535)
    ∷ prints 701 (plus 0) (plus 65535) ∷ prints 702 (plus 1000) (plus 255000) ∷ prints 703 (plus 1000) (plus 255000) ∷ prints 704 (plus 0) (plus 65535)
    ∷ prints 705 (plus 1000) (plus 255000) ∷ prints 706 (plus 1000) (plus 255000) ∷ prints 707 (plus 0) (plus 5000) ∷ prints 708 (plus 0) (plus 5000)
    ∷ prints 709 (plus 0) (plus 5000) ∷ prints 710 (plus 0) (plus 65535)
    ∷ prints 801 (plus 1000) (plus 255000) ∷ prints 802 (plus 1000) (plus 255000) ∷ prints 803 (minus 40000) (plus 210000) ∷ prints 804 (minus 40000) (plus 210000)
    ∷ prints 805 (minus 40000) (plus 210000) ∷ prints 806 (minus 40000) (plus 210000) ∷ prints 807 (minus 40000) (plus 210000) ∷ prints 808 (minus 40000) (plus 210000)
    ∷ prints 901 (minus 40000) (plus 210000) ∷ prints 902 (minus 40000) (plus 210000) ∷ prints 903 (minus 40000) (plus 210000) ∷ prints 904 (plus 1000) (plus 255000)
    ∷ prints 905 (plus 1000) (plus 255000) ∷ prints 906 (plus 1000) (plus 255000) ∷ prints 907 (plus 1000) (plus 255000)
    ∷ prints 1001 (plus 1000) (plus 255000) ∷ prints 1002 (plus 1000) (plus 65535000) ∷ prints 1003 (plus 1000) (plus 65535000)
    ∷ prints 1101 (plus 0) (plus 65535000) ∷ prints 1102 (plus 0) (plus 6553500) ∷ prints 1103 (plus 0) (plus 6553500) ∷ prints 1104 (plus 0) (plus 3000)
    ∷ prints 1105 (plus 0) (plus 15000)
    ∷ prints 1201 (plus 0) (plus 255000) ∷ prints 1202 (plus 0) (plus 255000) ∷ prints 1203 (plus 0) (plus 255000) ∷ prints 1204 (plus 0) (plus 255000)
    ∷ prints 1205 (plus 0) (plus 255000) ∷ prints 1206 (plus 0) (plus 255000) ∷ prints 1207 (plus 0) (plus 255000) ∷ prints 1208 (plus 0) (plus 255000)
    ∷ prints 1209 (plus 0) (plus 255000) ∷ prints 1210 (plus 0) (plus 255000) ∷ prints 1211 (plus 0) (plus 255000) ∷ prints 1212 (plus 0) (plus 255000)
    ∷ prints 1213 (plus 0) (plus 255000) ∷ prints 1214 (plus 0) (plus 255000) ∷ prints 1215 (plus 0) (plus 255000) ∷ prints 1216 (plus 0) (plus 255000)
    ∷ prints 1217 (plus 0) (plus 255000) ∷ prints 1218 (plus 0) (plus 255000) ∷ prints 1219 (plus 0) (plus 255000) ∷ prints 1220 (plus 0) (plus 255000)
    ∷ prints 1221 (plus 0) (plus 255000) ∷ prints 1222 (plus 0) (plus 255000) ∷ prints 1223 (plus 0) (plus 255000) ∷ prints 1224 (plus 0) (plus 255000)
    ∷ prints 1225 (plus 0) (plus 255000) ∷ prints 1226 (plus 0) (plus 255000)
    ∷ prints 1305 (plus 1985000) (plus 2235000) ∷ prints 1306 (plus 0) (plus 12000) ∷ prints 1307 (plus 0) (plus 31000)
    ∷ prints 1501 (plus 0) (plus 255000) ∷ prints 1502 (plus 0) (plus 1000) ∷ prints 1503 (plus 0) (plus 1000) ∷ prints 1504 (plus 0) (plus 1000)
    ∷ prints 1505 (plus 0) (plus 255000) ∷ prints 1506 (plus 0) (plus 4294967295000)
    ∷ prints 1601 (plus 0) (plus 3000) ∷ prints 1602 (plus 0) (plus 1000) ∷ prints 1603 (plus 0) (plus 3000) ∷ prints 1604 (plus 0) (plus 3000)
    ∷ prints 1605 (plus 0) (plus 3000) ∷ prints 1606 (plus 0) (plus 3000)
    ∷ prints 1701 (plus 0) (plus 6553500) ∷ prints 1702 (plus 0) (plus 6553500) ∷ prints 1703 (plus 0) (plus 6553500) ∷ prints 1704 (plus 0) (plus 6553500)
    ∷ prints 1705 (plus 0) (plus 7000) ∷ prints 1706 (plus 0) (plus 3000) ∷ prints 1707 (plus 0) (plus 7000) ∷ prints 1708 (plus 0) (plus 7000)
    ∷ prints 1709 (plus 0) (plus 3000) ∷ prints 1710 (minus 40000) (plus 210000) ∷ prints 1711 (minus 40000) (plus 210000) ∷ prints 1712 (minus 40000) (plus 210000)
    ∷ prints 1713 (minus 40000) (plus 210000)
    ∷ prints 1801 (plus 0) (plus 3000) ∷ prints 1802 (plus 0) (plus 3000) ∷ prints 1803 (plus 0) (plus 3000) ∷ prints 1804 (plus 0) (plus 3000)
    ∷ prints 1805 (minus 40000) (plus 210000) ∷ prints 1806 (plus 0) (plus 1000000) ∷ prints 1807 (plus 0) (plus 3000) ∷ prints 1808 (plus 0) (plus 3000)
    ∷ prints 1809 (plus 0) (plus 3000) ∷ prints 1810 (minus 40000) (plus 210000) ∷ prints 1811 (minus 40000) (plus 210000) ∷ prints 1812 (plus 0) (plus 1000000)
    ∷ prints 1813 (plus 0) (plus 63000) ∷ prints 1814 (plus 0) (plus 3000)
    ∷ prints 1901 (plus 0) (plus 3000) ∷ prints 1902 (plus 0) (plus 3000) ∷ prints 1903 (plus 0) (plus 3000) ∷ prints 1904 (plus 0) (plus 3000)
    ∷ prints 1905 (plus 0) (plus 3000) ∷ prints 1906 (plus 0) (plus 3000) ∷ prints 1907 (plus 0) (plus 3000) ∷ prints 1908 (plus 0) (plus 3000)
    ∷ prints 1909 (plus 0) (plus 3000) ∷ prints 1910 (plus 0) (plus 3000) ∷ prints 1911 (plus 0) (plus 3000) ∷ prints 1912 (plus 0) (plus 3000)
    ∷ prints 1913 (plus 0) (plus 3000) ∷ prints 1914 (plus 0) (plus 3000) ∷ prints 1915 (plus 0) (plus 1000) ∷ prints 1916 (plus 0) (plus 1000)
    ∷ prints 1917 (plus 0) (plus 1000) ∷ prints 1918 (plus 0) (plus 1000) ∷ prints 1919 (plus 0) (plus 1000) ∷ prints 1920 (plus 0) (plus 1000)
    ∷ prints 1921 (plus 0) (plus 1000) ∷ prints 1922 (plus 0) (plus 1000) ∷ prints 1923 (plus 0) (plus 31000) ∷ prints 1924 (plus 0) (plus 1000)
    ∷ prints 1925 (plus 0) (plus 3000) ∷ prints 1926 (plus 0) (plus 1000) ∷ prints 1927 (plus 0) (plus 1000)
    ∷ []
