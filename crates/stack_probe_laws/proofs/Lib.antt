mod Probe
