mod Unreported
